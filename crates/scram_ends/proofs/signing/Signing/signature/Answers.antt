use Rattle.std.proofs.Common.{length, arith, inl, inr}
use Rattle.std.proofs.Math.Logic.{∥∥₁_elim}
use mathlib.Core.HLevel.{⊥_prop}
use Rattle.std.proofs.lemmas.Bool.{cases_lt}
use Rattle.scram_ends.proofs.lemmas.HonestLogins.{digest_length_is_in_range}
use Rattle.scram_ends.proofs.signing.Signing.signature.Goals as goal

pub returns-clause-some : goal.returns-clause-some
returns-clause-some c = elim (cases_lt 0 (length c.signed.result.items)) [
  | inl some ↦ omega (arith, some)
  | inr none ↦ absurd (∥∥₁_elim c.args.self.now.is_mac ⊥_prop (λ mac.
      let long = c.signed.ensures.len c.args.self.now.mechanism mac.0 mac.1 mac.2 in
      let range = digest_length_is_in_range c.args.self.now.mechanism in
      omega (arith, none, long, range.0)))
]
