use Rattle.sasl_desk.proofs.lemmas.halls.Alone.{logins_depend_on_no_other_session}
use Rattle.sasl_desk.proofs.laws.hall.logins_depend_on_no_other_session.Goals as goal

pub returns : goal.returns
returns g c = λ start begun calls others hall other n m. logins_depend_on_no_other_session n m
