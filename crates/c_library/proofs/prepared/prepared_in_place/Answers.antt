use Rattle.std.proofs.Common.{refl}
use Rattle.c_library.proofs.lemmas.Prepared.{none_for_none, prepared_for_plain}
use Rattle.c_library.proofs.prepared.prepared_in_place.Goals as goal

pub returns-in-Some : goal.returns-in-Some
returns-in-Some c = λ m held plain. prepared_for_plain m held c.args.keys c.in-Some.bytes _ plain c.in-Some.is refl

pub returns-in-None : goal.returns-in-None
returns-in-None c = λ m held plain. none_for_none m c.args.prepared.now held c.args.keys plain c.in-None.is
