use Rattle.scram_ends.proofs.lemmas.Verdicts.{accepts_exactly_valid}
use Rattle.scram_ends.proofs.laws.accepts_exactly_valid.Goals as goal

pub returns : goal.returns
returns c = accepts_exactly_valid
