use Rattle.std.proofs.Common.{inl, inr}
use Rattle.sasl_desk.proofs.lemmas.runs.Logs.{log_is_clean_closed, log_is_clean_halted}
use Rattle.sasl_desk.proofs.laws.log_is_clean.Goals as goal

pub returns-clause-closed : goal.returns-clause-closed
returns-clause-closed g c = λ start calls desk s is. log_is_clean_closed s (inl is)

pub returns-clause-failed : goal.returns-clause-failed
returns-clause-failed g c = λ start calls desk s is. log_is_clean_closed s (inr is)

pub returns-clause-halted : goal.returns-clause-halted
returns-clause-halted g c = λ start calls desk s. log_is_clean_halted s
