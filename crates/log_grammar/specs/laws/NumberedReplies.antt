-- Codes that passed in a log of version 2, in any of its sessions.
use Rattle.std.specs.Prelude.{ℕ, ◌≡◌, ◌<◌, List, [], ◌∷◌, ◌++◌, reverse}
use Rattle.std.specs.declared.option.Option.TheVariants.{Some}
use Rattle.otp_core.specs.Attempt.{CodeTexts, used_in}
use Rattle.otp_core.specs.Reply.{IsFitting}
use Rattle.otp_core.specs.declared.token.kinds.TokenFields.{TokenFields}
use Rattle.account_book.specs.AccountAttempt.{AccountAttempt}
use Rattle.log_grammar.specs.Lines.{LogLine}
use Rattle.log_grammar.specs.Places.{Place, waits_code, got_code}
use Rattle.log_grammar.specs.Demands.{Accounts, attempts_of, demands}
use Rattle.log_grammar.specs.laws.Replies.{pass_line, AreRising}
use Rattle.log_grammar.specs.Numbered.{Numbered, numbered, IsNumberedLogUpTo}

-- under this number the lines end with a code of this counter, or with two in a row of which it is the second
pub record IsNumberedCodeOf (limit : ℕ) (accounts : Accounts) (log : List (Numbered LogLine)) (n moment counter : ℕ)
    (next : Place) : Type 0 where
  pub account : List ℕ
  pub sent : CodeTexts
  pub places : ℕ → Place
  pub told : List AccountAttempt
  pub token : TokenFields
  -- the number waits for the reply to what the client of an account sent
  pub after : IsNumberedLogUpTo limit (demands accounts) log places told
  pub waits : places n ≡ got_code account sent
  -- the account has a token
  pub has_token : accounts.token account ≡ Some token
  -- the code is the token's for the counter, which could pass at the moment, after the earlier replies to the account; or the two
  -- are its codes for the counter before it and for it, and the former could pass as the first of two
  pub fits : IsFitting token (attempts_of account (reverse told)) moment sent counter
  -- after the reply, the account's client may send another code
  pub is_next : next ≡ waits_code account

-- PASS may stand under a number only after such a code
abbrev pub EachNumberedPassIsACode : Type 0
EachNumberedPassIsACode = (limit : ℕ) (accounts : Accounts) (log : List (Numbered LogLine)) (n moment counter : ℕ) (places : ℕ → Place)
    (told : List AccountAttempt)
    → IsNumberedLogUpTo limit (demands accounts) (log ++ numbered n (pass_line moment counter) ∷ []) places told
    → IsNumberedCodeOf limit accounts log n moment counter (places n)

-- of two passes of one account in a log, under any numbers, the later has the greater counter
abbrev pub NumberedCountersRise : Type 0
NumberedCountersRise = (limit : ℕ) (accounts : Accounts) (log more : List (Numbered LogLine)) (account : List ℕ)
    (n moment counter m later greater : ℕ)
    (places after : ℕ → Place) (told all : List AccountAttempt)
    → IsNumberedLogUpTo limit (demands accounts) (log ++ numbered n (pass_line moment counter) ∷ []) places told
    → places n ≡ waits_code account
    → IsNumberedLogUpTo limit (demands accounts)
    ((log ++ numbered n (pass_line moment counter) ∷ []) ++ (more ++ numbered m (pass_line later greater) ∷ [])) after all
    → after m ≡ waits_code account → counter < greater

-- the counters that an account's codes use in a log, including both counters of two codes in a row, rise: none is used twice
abbrev pub NoNumberedCounterIsUsedTwice : Type 0
NoNumberedCounterIsUsedTwice = (limit : ℕ) (accounts : Accounts) (log : List (Numbered LogLine)) (places : ℕ → Place)
    (told : List AccountAttempt) (account : List ℕ)
    → IsNumberedLogUpTo limit (demands accounts) log places told → AreRising (used_in (attempts_of account (reverse told)))
