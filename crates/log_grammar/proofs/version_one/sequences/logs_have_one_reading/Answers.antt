use Rattle.log_grammar.proofs.lemmas.state_machine.PlaceBefore.{logs_have_one_reading}
use Rattle.log_grammar.proofs.version_one.sequences.logs_have_one_reading.Goals as goal

pub returns : goal.returns
returns c = logs_have_one_reading
