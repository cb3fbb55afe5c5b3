use Rattle.sasl_desk.proofs.lemmas.runs.Stores.{passed_counters_are_saved}
use Rattle.sasl_desk.proofs.laws.passed_counters_are_saved.Goals as goal

pub returns : goal.returns
returns g c = λ start calls desk s. passed_counters_are_saved s
