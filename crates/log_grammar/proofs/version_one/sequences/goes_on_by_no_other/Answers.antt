use Rattle.log_grammar.specs.Demands.{demands}
use Rattle.log_grammar.proofs.lemmas.state_machine.LogSteps.{log_has_last_transition}
use Rattle.log_grammar.proofs.version_one.sequences.goes_on_by_no_other.Goals as goal

pub returns : goal.returns
returns c = λ accounts log line next all begins. log_has_last_transition (demands accounts) log line next all begins
