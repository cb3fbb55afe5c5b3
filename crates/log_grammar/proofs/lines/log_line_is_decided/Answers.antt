use Rattle.log_grammar.proofs.lemmas.lines.LinesDecided.{log_line_is_decided}
use Rattle.log_grammar.proofs.lines.log_line_is_decided.Goals as goal

pub returns : goal.returns
returns c = log_line_is_decided
