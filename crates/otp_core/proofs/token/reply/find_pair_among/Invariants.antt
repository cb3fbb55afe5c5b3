use Rattle.std.proofs.Common.{◌≡◌, ◌≤◌, ◌<◌, ◌+◌, ◌↔◌, ℕ, List, Bool}
use Rattle.std.specs.Prelude.{IsTrue}
use Rattle.otp_core.specs.Hash.{hotp_text_by}
use Rattle.otp_core.specs.declared.hash.OtpHash.TheVariants.{Sha1}
use Rattle.otp_core.proofs.token.reply.find_pair_among.Given as goal

-- no pair so far has the texts, and the flag says whether the counter before has the first text
pub record NoPairSoFar (text_of : ℕ → List ℕ) (from counter : ℕ) (first second : List ℕ) (follows : Bool) : Type 0 where
  pub flag : IsTrue follows ↔ ((w : ℕ) × (counter ≡ w + 1) × (from ≤ w) × (text_of w ≡ first))
  pub none : (w : ℕ) → from ≤ w → w + 1 < counter → text_of w ≡ first → text_of (w + 1) ≡ second → ⊥

abbrev pub invariant-loop-counter : goal.invariant-loop-counter
invariant-loop-counter l =
    NoPairSoFar (λ k. hotp_text_by Sha1 l.fn.token.digits l.fn.token.secret k) l.fn.counters.first l.counter l.fn.first l.fn.second
    l.follows_first
