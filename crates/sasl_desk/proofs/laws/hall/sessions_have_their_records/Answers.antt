use Rattle.sasl_desk.proofs.lemmas.halls.Records.{sessions_have_their_records}
use Rattle.sasl_desk.proofs.laws.hall.sessions_have_their_records.Goals as goal

pub returns : goal.returns
returns g c = λ start calls hall s. sessions_have_their_records s
