use Rattle.sasl_desk.proofs.lemmas.halls.Logs.{log_is_clean_closed, log_is_clean_failed, log_is_clean_halted}
use Rattle.sasl_desk.proofs.laws.hall.log_is_clean.Goals as goal

pub returns-clause-closed : goal.returns-clause-closed
returns-clause-closed g c = λ start calls hall s. log_is_clean_closed s

pub returns-clause-failed : goal.returns-clause-failed
returns-clause-failed g c = λ start calls hall s. log_is_clean_failed s

pub returns-clause-halted : goal.returns-clause-halted
returns-clause-halted g c = λ start calls hall s. log_is_clean_halted s
