use Rattle.std.proofs.Common.{codes}
use Rattle.std.proofs.lemmas.Bool.Decides.{Decides-eqb}
use Rattle.std.proofs.lemmas.Slice.Eq.{strip_prefix_is}
use Rattle.c_library.proofs.verifier.after_scheme.Goals as goal

pub returns-in-Some-strip_prefix-clause-some : goal.returns-in-Some-strip_prefix-clause-some
returns-in-Some-strip_prefix-clause-some c =
    let found = strip_prefix_is Decides-eqb c.args.text.now (codes "SCRAM-SHA-1$") c.strip_prefix-2.result c.strip_prefix-2.ensures.cases in
    rw c.in-Some-strip_prefix.is at found
