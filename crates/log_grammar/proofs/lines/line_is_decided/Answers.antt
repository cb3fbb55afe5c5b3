use Rattle.log_grammar.proofs.lemmas.lines.LinesDecided.{line_is_decided}
use Rattle.log_grammar.proofs.lines.line_is_decided.Goals as goal

pub returns : goal.returns
returns c = line_is_decided
