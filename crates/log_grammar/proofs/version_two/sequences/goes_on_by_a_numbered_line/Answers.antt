use Rattle.log_grammar.specs.Demands.{demands}
use Rattle.log_grammar.proofs.lemmas.many_sessions.LogSteps.{numbered_log_goes_on}
use Rattle.log_grammar.proofs.version_two.sequences.goes_on_by_a_numbered_line.Goals as goal

pub returns : goal.returns
returns c = λ limit accounts log places told n line to s g. numbered_log_goes_on limit (demands accounts) log places told n line to s g
