use Rattle.log_grammar.specs.Demands.{demands}
use Rattle.log_grammar.proofs.lemmas.many_sessions.OpenCounts.{open_numbers_are_counted, open_number_is_in_range}
use Rattle.log_grammar.proofs.version_two.sequences.open_sessions_are_counted.Goals as goal

pub returns : goal.returns
returns c = λ limit accounts log places told s. (
  open_numbers_are_counted limit (demands accounts) log places told s,
  λ n is. open_number_is_in_range limit (demands accounts) log places told s n is,
)
