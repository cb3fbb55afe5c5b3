-- The tokens of a book's accounts.
use Rattle.std.specs.Prelude.{ℕ, ◌≡◌, List, [], ◌∷◌, option_and_then, Option, MatchOption}
use Rattle.std.specs.declared.option.Option.TheVariants.{None, Some}
use Rattle.otp_core.specs.Attempt.{CodeTexts}
use Rattle.otp_core.specs.Ranges.{IsMoment}
use Rattle.otp_core.specs.State.{unlocked}
use Rattle.otp_core.specs.TokenAttempt.{IsTokenAttempt}
use Rattle.otp_core.specs.declared.token.reply.Reply.{Reply}
use Rattle.otp_core.specs.declared.token.kinds.TokenFields.{TokenFields}
use Rattle.book_format.specs.Account.{AccountFields}
use Rattle.book_format.specs.Book.{BookFields}
use Rattle.account_book.specs.AccountAttempt.{AccountAttempt}
use Rattle.account_book.specs.Accounts.{account_at, IsChanged}

-- the token of the account of this name
abbrev pub token_at : BookFields → List ℕ → Option TokenFields
token_at book name = option_and_then (λ account. account.token) (account_at book name)

-- the account with this token
abbrev pub with_token : TokenFields → AccountFields → AccountFields
with_token token account = record account { token = Some token }

-- what an attempt on the token of this account does: `next` is the token after it, and nothing else in the book changes
pub record ChangesToken (old : BookFields) (name : List ℕ) (token : TokenFields) (moment : ℕ) (sent : CodeTexts) (reply : Reply)
    (new : BookFields) : Type 0 where
  pub next : TokenFields
  pub judged : IsTokenAttempt token moment sent reply next
  pub kept : IsChanged old name (with_token next) new

-- an attempt on an account of the old book gets its reply and leads to the new book. If the account has a token, the reply is the one
-- due; if it has none, or there is no such account, there is no reply, and nothing changes.
pub record IsBookAttempt (old : BookFields) (attempt : AccountAttempt) (new : BookFields) : Type 0 where
  pub is_moment : IsMoment attempt.moment
  pub answered : MatchOption (token_at old attempt.account)
      ((attempt.reply ≡ None) × (new ≡ old))
      (λ token. (reply : Reply) × (attempt.reply ≡ Some reply)
      × ChangesToken old attempt.account token attempt.moment attempt.sent reply new)

-- the failures of the token of this name's account are set to 0, and nothing else changes; if there is no such account or it has no
-- token, nothing changes
abbrev pub IsUnlocked : BookFields → List ℕ → BookFields → Type 0
IsUnlocked old name new = MatchOption (token_at old name) (new ≡ old) (λ token. IsChanged old name (with_token (unlocked token)) new)

-- the book after these attempts, the latest of which comes first: each was judged in the book before it
abbrev pub IsBookAfterAttempts : (start : BookFields) → (latest_first : List AccountAttempt) → (book : BookFields) → Type 0
IsBookAfterAttempts start [] book = book ≡ start
IsBookAfterAttempts start (attempt ∷ before) book =
    (old : BookFields) × IsBookAfterAttempts start before old × IsBookAttempt old attempt book
