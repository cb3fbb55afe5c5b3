use Rattle.sasl_desk.proofs.lemmas.halls.Stores.{log_is_saved}
use Rattle.sasl_desk.proofs.laws.hall.log_is_saved.Goals as goal

pub returns : goal.returns
returns g c = λ start calls hall s. log_is_saved s
