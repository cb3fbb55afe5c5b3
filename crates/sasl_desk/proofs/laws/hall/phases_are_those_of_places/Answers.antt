use Rattle.sasl_desk.proofs.lemmas.halls.Phases.{phases_are_those_of_places}
use Rattle.sasl_desk.proofs.laws.hall.phases_are_those_of_places.Goals as goal

pub returns : goal.returns
returns g c = λ start calls hall s. phases_are_those_of_places s
