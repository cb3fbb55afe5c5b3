use Rattle.scram_ends.proofs.lemmas.Stateless.{both_are_plain}
use Rattle.scram_ends.proofs.stateless.are_plain.Goals as goal

pub returns-in-Some-clause-plain : goal.returns-in-Some-clause-plain
returns-in-Some-clause-plain c =
    both_are_plain c.args.name.now c.in-Some.spelled c.args.authzid.now c.is_plain-in-Some.result c.in-Some.is c.if-not-is_plain.ensures.plain
    c.is_plain-in-Some.ensures.plain
