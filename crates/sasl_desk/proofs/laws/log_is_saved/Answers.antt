use Rattle.sasl_desk.proofs.lemmas.runs.Stores.{log_is_saved}
use Rattle.sasl_desk.proofs.laws.log_is_saved.Goals as goal

pub returns : goal.returns
returns g c = λ start calls desk s. log_is_saved s
