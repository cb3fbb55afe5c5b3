use Rattle.std.proofs.Common.{◌≡◌, ◌≤◌, ◌<◌, ℕ}
use Rattle.otp_core.specs.Code.{hotp_text}
use Rattle.otp_core.proofs.token.reply.find_with.Given as goal

-- no counter so far has the text
abbrev pub invariant-loop-counter : goal.invariant-loop-counter
invariant-loop-counter g l =
    (k : ℕ) → l.fn.counters.first ≤ k → k < l.counter
    → hotp_text g.H.HashFn.digest_of g.H.HashFn.BLOCK l.fn.digits l.fn.secret k ≡ l.fn.text → ⊥
