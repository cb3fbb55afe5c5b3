use Rattle.log_grammar.specs.Demands.{demands}
use Rattle.log_grammar.proofs.lemmas.state_machine.LogSteps.{log_goes_on}
use Rattle.log_grammar.proofs.version_one.sequences.goes_on_by_a_line.Goals as goal

pub returns : goal.returns
returns c = λ accounts log place told line next begins goes due. log_goes_on (demands accounts) log place told line next begins goes due
