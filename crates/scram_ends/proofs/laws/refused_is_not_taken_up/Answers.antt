use Rattle.scram_ends.proofs.lemmas.Opening.{refused_is_not_taken_up}
use Rattle.scram_ends.proofs.laws.refused_is_not_taken_up.Goals as goal

pub returns : goal.returns
returns c = refused_is_not_taken_up
