-- Codes that passed in a log: each is the code of its counter, inside the window, and that counter had not passed before. Also
-- codes that do pass: one, and two in a row.
use Rattle.std.specs.Prelude.{ℕ, ◌≡◌, ◌<◌, ◌+◌, List, [], ◌∷◌, ◌++◌, reverse}
use Rattle.std.specs.declared.option.Option.TheVariants.{Some}
use Rattle.otp_core.specs.Attempt.{CodeTexts, used_in}
use Rattle.otp_core.specs.Ranges.{IsDigitCount, IsMoment, IsCounter}
use Rattle.otp_core.specs.Window.{IsAbove}
use Rattle.otp_core.specs.Reply.{code_text, IsFitting}
use Rattle.otp_core.specs.declared.token.reply.Reply.TheVariants.{Pass}
use Rattle.otp_core.specs.declared.token.kinds.TokenFields.{TokenFields}
use Rattle.otp_core.specs.declared.token.kinds.TokenFields.TheVariants.{Hotp}
use Rattle.otp_core.specs.declared.token.kinds.HotpFields.{HotpFields}
use Rattle.account_book.specs.AccountAttempt.{AccountAttempt}
use Rattle.log_grammar.specs.Lines.{LogLine, said, heard, gone, ended, replies, code, sync}
use Rattle.log_grammar.specs.Places.{Place, waits_code, got_code}
use Rattle.log_grammar.specs.Demands.{Accounts, attempts_of, demands}
use Rattle.log_grammar.specs.Begins.{Begins}
use Rattle.log_grammar.specs.Versions.{IsClean}
use Rattle.log_grammar.specs.laws.Logins.{Exchange, IsLoginTo, login_session, original_bytes}

-- the line that lets a code, or two in a row, pass
abbrev pub pass_line : (moment counter : ℕ) → LogLine
pass_line moment counter = said (replies moment (Some (Pass counter)))

-- the log ends with a code of this counter, or with two in a row of which it is the second
pub record IsCodeOf (accounts : Accounts) (log : List LogLine) (moment counter : ℕ) (next : Place) : Type 0 where
  pub account : List ℕ
  pub sent : CodeTexts
  pub told : List AccountAttempt
  pub token : TokenFields
  -- the log waits for the reply to what the client of an account sent
  pub after : Begins (demands accounts) log (got_code account sent) told
  -- the account has a token
  pub has_token : accounts.token account ≡ Some token
  -- the code is the token's for the counter, which could pass at the moment, after the earlier replies to the account; or the two
  -- are its codes for the counter before it and for it, and the former could pass as the first of two
  pub fits : IsFitting token (attempts_of account (reverse told)) moment sent counter
  -- after the reply, the account's client may send another code
  pub is_next : next ≡ waits_code account

-- PASS may stand only after such a code
abbrev pub EachPassIsACode : Type 0
EachPassIsACode = (accounts : Accounts) (log : List LogLine) (moment counter : ℕ) (next : Place) (told : List AccountAttempt)
    → Begins (demands accounts) (log ++ pass_line moment counter ∷ []) next told → IsCodeOf accounts log moment counter next

-- of two passes of one account in a log, in any sessions, the later has the greater counter
abbrev pub CountersRise : Type 0
CountersRise = (accounts : Accounts) (log more : List LogLine) (account : List ℕ) (moment counter later greater : ℕ)
    (told all : List AccountAttempt)
    → Begins (demands accounts) (log ++ pass_line moment counter ∷ []) (waits_code account) told
    → Begins (demands accounts) ((log ++ pass_line moment counter ∷ []) ++ (more ++ pass_line later greater ∷ [])) (waits_code account) all
    → counter < greater

-- counters, latest first, each greater than all before it
abbrev pub AreRising : List ℕ → Type 0
AreRising [] = Unit {0}
AreRising (c ∷ before) = IsAbove before c × AreRising before

-- the counters that an account's codes use in a log, including both counters of two codes in a row, rise: none is used twice
abbrev pub NoCounterIsUsedTwice : Type 0
NoCounterIsUsedTwice = (accounts : Accounts) (log : List LogLine) (place : Place) (told : List AccountAttempt) (account : List ℕ)
    → Begins (demands accounts) log place told → AreRising (used_in (attempts_of account (reverse told)))

-- after a valid login, the code of the next counter of an account's HOTP token passes, if failures do not lock it and the counter
-- is not used up
abbrev pub NextHotpCodePasses : Type 0
NextHotpCodePasses = (accounts : Accounts) (mechanism name : List ℕ) (exchange : Exchange) (moment : ℕ) (t : HotpFields)
    → IsLoginTo accounts mechanism name exchange → IsMoment moment → accounts.token name ≡ Some (Hotp t)
    → t.failures < t.limit → IsDigitCount t.digits → IsCounter t.next
    → let text = code_text (Hotp t) t.next in
    IsClean accounts (original_bytes (login_session mechanism exchange ++ heard (code text) ∷ pass_line moment t.next ∷ gone ∷ ended ∷ []))

-- the line with two codes in a row: those of the next counter of a HOTP token and of the one after it
abbrev pub next_two : HotpFields → LogLine
next_two t = heard (sync (code_text (Hotp t) t.next) (code_text (Hotp t) (t.next + 1)))

-- after a valid login, the next two codes in a row of an account's HOTP token pass, with the counter of the second, if failures do
-- not lock it and neither counter is used up
abbrev pub NextTwoHotpCodesPass : Type 0
NextTwoHotpCodesPass = (accounts : Accounts) (mechanism name : List ℕ) (exchange : Exchange) (moment : ℕ) (t : HotpFields)
    → IsLoginTo accounts mechanism name exchange → IsMoment moment → accounts.token name ≡ Some (Hotp t)
    → t.failures < t.limit → IsDigitCount t.digits → IsCounter (t.next + 1)
    → IsClean accounts (original_bytes (login_session mechanism exchange ++ next_two t ∷ pass_line moment (t.next + 1) ∷ gone ∷ ended ∷ []))
