use Rattle.scram_ends.proofs.lemmas.Decided.{some_verdict_is_due}
use Rattle.scram_ends.proofs.laws.some_verdict_is_due.Goals as goal

pub returns : goal.returns
returns c = some_verdict_is_due
