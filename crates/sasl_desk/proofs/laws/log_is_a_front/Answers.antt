use Rattle.sasl_desk.proofs.lemmas.runs.Logs.{log_is_a_front}
use Rattle.sasl_desk.proofs.laws.log_is_a_front.Goals as goal

pub returns : goal.returns
returns g c = λ start calls desk s. log_is_a_front s
