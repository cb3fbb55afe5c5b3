-- How the counter of a pass is found, what the pass demands of a token, and the reply for what was found.
use Rattle.std.specs.Prelude.{ℕ, ◌≤◌, ◌<◌, [], Option, None, Some}
use Rattle.otp_core.specs.Ranges.{IsCounter}
use Rattle.otp_core.specs.Window.{IsCandidate}
use Rattle.otp_core.specs.declared.token.reply.Reply.{Reply}
use Rattle.otp_core.specs.declared.token.reply.Reply.TheVariants.{Pass, Fail}
use Rattle.otp_core.specs.declared.token.window.Counters.{Counters}
use Rattle.otp_core.specs.declared.token.kinds.TokenFields.{TokenFields}
use Rattle.otp_core.specs.declared.token.kinds.TokenFields.TheVariants.{Hotp, Totp}

-- the counter is one of these
abbrev pub IsOneOf : Counters → (c : ℕ) → Type 0
IsOneOf counters c = (counters.first ≤ c) × (c < counters.end)

-- what was found is the least counter that fits, or nothing if none fits
abbrev pub IsLeast : (Fits : ℕ → Type 0) → (found : Option ℕ) → Type 0
IsLeast Fits (Some c) = Fits c × ((k : ℕ) → Fits k → c ≤ k)
IsLeast Fits None = (k : ℕ) → Fits k → ⊥

-- what the token's ranges demand of a counter that passes at a moment: with HOTP, it is at most the greatest that can pass; with
-- TOTP, it is a step that can pass at that moment
abbrev pub CanMoveTo : TokenFields → (moment c : ℕ) → Type 0
CanMoveTo (Hotp t) moment c = IsCounter c
CanMoveTo (Totp t) moment w = IsCandidate (Totp t) [] moment w

-- the reply: Pass of the counter that was found to fit, or Fail if none was found
abbrev pub reply_of : Option ℕ → Reply
reply_of None = Fail
reply_of (Some c) = Pass c
