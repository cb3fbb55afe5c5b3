-- How a reply (RFC 4226, section 7.2; for the drift, RFC 6238, section 6) and an unlock change a token's state.
use Rattle.std.specs.Prelude.{ℕ, ◌+◌, pos, ◌-ℤ◌, Some}
use Rattle.otp_core.specs.Window.{step_at}
use Rattle.otp_core.specs.declared.token.reply.Reply.{Reply}
use Rattle.otp_core.specs.declared.token.reply.Reply.TheVariants.{Pass, Fail, Locked}
use Rattle.otp_core.specs.declared.token.kinds.TokenFields.{TokenFields}
use Rattle.otp_core.specs.declared.token.kinds.TokenFields.TheVariants.{Hotp, Totp}

-- the token after a pass of a counter at a moment
abbrev pub after_pass : TokenFields → (moment c : ℕ) → TokenFields
after_pass (Hotp t) moment c = Hotp (record t { next = c + 1; failures = 0 })
after_pass (Totp t) moment w = Totp (record t { last = Some w; drift = pos w -ℤ pos (step_at t moment); failures = 0 })

-- the token after a failure
abbrev pub after_fail : TokenFields → TokenFields
after_fail (Hotp t) = Hotp (record t { failures = t.failures + 1 })
after_fail (Totp t) = Totp (record t { failures = t.failures + 1 })

-- the token after a reply at a moment
abbrev pub after_reply : TokenFields → (moment : ℕ) → Reply → TokenFields
after_reply t moment (Pass c) = after_pass t moment c
after_reply t moment Fail = after_fail t
after_reply t moment Locked = t

-- the token with no failures, as an unlock leaves it
abbrev pub unlocked : TokenFields → TokenFields
unlocked (Hotp t) = Hotp (record t { failures = 0 })
unlocked (Totp t) = Totp (record t { failures = 0 })
