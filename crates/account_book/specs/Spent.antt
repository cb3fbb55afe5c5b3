-- Counters of accounts that are spent: no code passes with one of them again, whatever is attempted later.
use Rattle.std.specs.Prelude.{ℕ, ◌≡◌, ◌≢◌, ◌<◌, List, [], ◌∷◌, ◌++◌, map, flat_map, Option}
use Rattle.std.specs.List.{AllByRecursion}
use Rattle.std.specs.declared.option.Option.TheVariants.{None, Some}
use Rattle.otp_core.specs.Attempt.{Attempt, CodeTexts, used_in_reply}
use Rattle.otp_core.specs.Ranges.{IsMoment}
use Rattle.otp_core.specs.Window.{CanPass}
use Rattle.otp_core.specs.History.{IsLegal}
use Rattle.otp_core.specs.declared.token.reply.Reply.{Reply}
use Rattle.otp_core.specs.declared.token.kinds.TokenFields.{TokenFields}
use Rattle.book_format.specs.Book.{BookFields}
use Rattle.account_book.specs.Tokens.{token_at, IsBookAttempt}
use Rattle.account_book.specs.AccountAttempt.{AccountAttempt}

-- a counter is below each that can pass with a token, at every moment and after every legal history
abbrev pub IsBelow : TokenFields → (counter : ℕ) → Type 0
IsBelow token counter = (history : List Attempt) (moment passing : ℕ) → IsMoment moment → IsLegal token history
    → CanPass token history moment passing → counter < passing

-- the account has a token, and this counter is below each that can pass with it
pub record IsCounterSpent (book : BookFields) (name : List ℕ) (counter : ℕ) : Type 0 where
  pub token : TokenFields
  pub has : token_at book name ≡ Some token
  pub below : IsBelow token counter

-- no counter of an account appears twice
abbrev pub AreDifferent : List (List ℕ × ℕ) → Type 0
AreDifferent [] = Unit {0}
AreDifferent (counter ∷ counters) = AllByRecursion (λ other. counter ≢ other) counters × AreDifferent counters

-- counters, each with its account, that are different and all spent
pub record AreSpent (counters : List (List ℕ × ℕ)) (book : BookFields) : Type 0 where
  pub different : AreDifferent counters
  pub spent : AllByRecursion (λ counter. IsCounterSpent book counter.0 counter.1) counters

-- the counters that the reply to a code uses: for two codes in a row both, and none if the account has no token
abbrev pub used_by_reply : CodeTexts → Option Reply → List ℕ
used_by_reply sent None = []
used_by_reply sent (Some reply) = used_in_reply sent reply

-- counters, each with this account
abbrev pub of_account : (name : List ℕ) → (counters : List ℕ) → List (List ℕ × ℕ)
of_account name counters = map (λ counter. (name, counter)) counters

-- the counters that a reply uses, each with its account
abbrev pub spent_by : AccountAttempt → List (List ℕ × ℕ)
spent_by attempt = of_account attempt.account (used_by_reply attempt.sent attempt.reply)

-- the counters that the replies of these attempts use, with their accounts, in the order of the attempts
abbrev pub spent_by_all : List AccountAttempt → List (List ℕ × ℕ)
spent_by_all attempts = flat_map spent_by attempts

-- what was spent stays spent, and the counters that a reply uses are different ones and are then spent as well. So over any number
-- of replies, in any number of runs that each continue with the book of the one before, no counter of an account passes twice.
abbrev pub SpentStaysSpent : Type 0
SpentStaysSpent = (old new : BookFields) (attempt : AccountAttempt) (counters : List (List ℕ × ℕ))
    → IsBookAttempt old attempt new → AreSpent counters old → AreSpent (spent_by attempt ++ counters) new
