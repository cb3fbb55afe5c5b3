use Rattle.std.proofs.Common.{sym, subst}
use Rattle.log_grammar.specs.Books.{accounts_in}
use Rattle.log_grammar.specs.Numbered.{of_number}
use Rattle.sasl_desk.specs.AcceptedLogins.{LinesAcceptExactlyValid}
use Rattle.sasl_desk.proofs.lemmas.halls.CallBytes.{of_number-hall_lines}
use Rattle.sasl_desk.proofs.lemmas.runs.AcceptedLogins.{session_runs_accept_exactly_valid}
use Rattle.sasl_desk.proofs.laws.hall.log_accepts_exactly_valid.Goals as goal

pub returns : goal.returns
returns g c = λ start calls hall s n.
    subst (LinesAcceptExactlyValid (accounts_in start)) (sym (of_number-hall_lines n calls))
    (session_runs_accept_exactly_valid (accounts_in start) (of_number n calls) (s.places n) (s.session_runs n))
