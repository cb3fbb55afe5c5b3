use Rattle.log_grammar.proofs.lemmas.lines.ReadBack.{one_line}
use Rattle.log_grammar.proofs.lines.each_text_is_at_most_one_line.Goals as goal

pub returns : goal.returns
returns c = one_line
