use Rattle.sasl_desk.proofs.lemmas.runs.Records.{log_has_its_records}
use Rattle.sasl_desk.proofs.laws.log_has_its_records.Goals as goal

pub returns : goal.returns
returns g c = λ start calls desk s. log_has_its_records s
