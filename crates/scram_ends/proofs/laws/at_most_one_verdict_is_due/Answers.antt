use Rattle.scram_ends.proofs.lemmas.Verdicts.{at_most_one_verdict_is_due}
use Rattle.scram_ends.proofs.laws.at_most_one_verdict_is_due.Goals as goal

pub returns : goal.returns
returns c = at_most_one_verdict_is_due
