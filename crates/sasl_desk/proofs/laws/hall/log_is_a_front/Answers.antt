use Rattle.sasl_desk.proofs.lemmas.halls.Logs.{log_is_a_front}
use Rattle.sasl_desk.proofs.laws.hall.log_is_a_front.Goals as goal

pub returns : goal.returns
returns g c = λ start calls hall s. log_is_a_front s
