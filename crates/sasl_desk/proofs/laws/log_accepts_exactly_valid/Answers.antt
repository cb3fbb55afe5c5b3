use Rattle.log_grammar.specs.Books.{accounts_in}
use Rattle.sasl_desk.proofs.lemmas.runs.AcceptedLogins.{desk_runs_accept_exactly_valid}
use Rattle.sasl_desk.proofs.laws.log_accepts_exactly_valid.Goals as goal

pub returns : goal.returns
returns g c = λ start calls desk s. desk_runs_accept_exactly_valid (accounts_in start) calls s.place s.is_run
