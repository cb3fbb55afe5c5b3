use Rattle.sasl_desk.proofs.lemmas.runs.AcceptedLogins.{desk_runs_accept_exactly_valid, session_runs_accept_exactly_valid}
use Rattle.sasl_desk.proofs.laws.runs_accept_exactly_valid.Goals as goal

pub returns-clause-desk : goal.returns-clause-desk
returns-clause-desk c = desk_runs_accept_exactly_valid

pub returns-clause-session : goal.returns-clause-session
returns-clause-session c = session_runs_accept_exactly_valid
