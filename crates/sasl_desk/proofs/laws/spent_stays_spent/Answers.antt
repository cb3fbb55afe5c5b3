use Rattle.sasl_desk.proofs.lemmas.runs.Spent.{spent_stays_spent}
use Rattle.sasl_desk.proofs.laws.spent_stays_spent.Goals as goal

pub returns : goal.returns
returns c = spent_stays_spent
