use Rattle.log_grammar.proofs.lemmas.lines.ReadBack.{each_text_is_at_most_one_log_line}
use Rattle.log_grammar.proofs.lines.each_text_is_at_most_one_log_line.Goals as goal

pub returns : goal.returns
returns c = each_text_is_at_most_one_log_line
