use Rattle.std.proofs.Common.{refl}
use Rattle.scram_ends.proofs.first.is_unbound.Goals as goal

pub returns-in-Binding-clause-bound : goal.returns-in-Binding-clause-bound
returns-in-Binding-clause-bound c = (c.in-Binding.field-0.now, rw c.in-Binding.is refl)
