use Rattle.otp_core.proofs.token.window.candidates.Goals as goal

pub returns-in-Hotp : goal.returns-in-Hotp
returns-in-Hotp c = λ k. rw (c.in-Hotp.is) (c.hotp_candidates.ensures k)
