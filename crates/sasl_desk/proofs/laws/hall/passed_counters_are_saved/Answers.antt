use Rattle.sasl_desk.proofs.lemmas.halls.Stores.{passed_counters_are_saved}
use Rattle.sasl_desk.proofs.laws.hall.passed_counters_are_saved.Goals as goal

pub returns : goal.returns
returns g c = λ start calls hall s. passed_counters_are_saved s
