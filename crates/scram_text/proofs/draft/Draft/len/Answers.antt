use Rattle.std.proofs.Common.{inl, inr, length, ap, arith}
use Rattle.std.proofs.lemmas.Bool.{cases_Bool}
use Rattle.scram_text.proofs.draft.Draft.len.Goals as goal

pub returns : goal.returns
returns g c = λ text is short. elim (cases_Bool c.args.self.now.too_long) [
  | inl long ↦ absurd (omega (arith, is.too_long long, short))
  | inr whole ↦ omega (arith, c.len.ensures, ap length (is.held whole))
]
