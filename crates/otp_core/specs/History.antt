-- Legal histories, and the tokens to which they lead.
use Rattle.std.specs.Prelude.{ℕ, pos, ◌≡◌, ◌≤◌, ◌↔◌, List, [], ◌∷◌, None}
use Rattle.otp_core.specs.Ranges.{max_moment}
use Rattle.otp_core.specs.Attempt.{Attempt}
use Rattle.otp_core.specs.Window.{IsCandidate, IsPairCandidate}
use Rattle.otp_core.specs.Reply.{IsDueReply, failures_after}
use Rattle.otp_core.specs.declared.token.kinds.TokenFields.{TokenFields}
use Rattle.otp_core.specs.declared.token.kinds.TokenFields.TheVariants.{Hotp, Totp}

-- each reply of a history, which has the latest attempt first, is the one due after those before it, and each moment is in its range
abbrev pub IsLegal : (start : TokenFields) → (history : List Attempt) → Type 0
IsLegal start [] = Unit {0}
IsLegal start (a ∷ before) = (a.moment ≤ max_moment) × IsDueReply start before a.moment a.sent a.reply × IsLegal start before

-- a token's settings: the token with its state cleared, so next, drift and failures are 0 and there is no last step
abbrev pub without_state : TokenFields → TokenFields
without_state (Hotp t) = Hotp (record t { next = 0; failures = 0 })
without_state (Totp t) = Totp (record t { last = None; drift = pos 0; failures = 0 })

-- two starts with their histories have equal settings and equal failures, and at every moment the same counters can pass, by
-- themselves and as the first of a pair
pub record AreAlike (start : TokenFields) (history : List Attempt) (other : TokenFields) (since : List Attempt) : Type 0 where
  pub settings : without_state start ≡ without_state other
  pub failures : failures_after start history ≡ failures_after other since
  pub candidates : (moment c : ℕ) → moment ≤ max_moment → IsCandidate start history moment c ↔ IsCandidate other since moment c
  pub pairs : (c : ℕ) → IsPairCandidate start history c ↔ IsPairCandidate other since c

-- a legal history leads from a start to this token: the start with the history and the token without one are alike
pub record IsAfter (start : TokenFields) (history : List Attempt) (token : TokenFields) : Type 0 where
  pub legal : IsLegal start history
  pub alike : AreAlike start history token []
