use Rattle.scram_ends.proofs.lemmas.Opening.{taken_up_meets_every_row}
use Rattle.scram_ends.proofs.laws.taken_up_meets_every_row.Goals as goal

pub returns : goal.returns
returns c = taken_up_meets_every_row
