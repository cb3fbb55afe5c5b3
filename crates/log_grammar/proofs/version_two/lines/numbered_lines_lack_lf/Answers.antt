use Rattle.log_grammar.proofs.lemmas.lines.NumberedReadBack.{numbered_line_lacks_lf, numbered_line_is_short}
use Rattle.log_grammar.proofs.version_two.lines.numbered_lines_lack_lf.Goals as goal

pub returns : goal.returns
returns c = λ text x is. (numbered_line_lacks_lf text x is, numbered_line_is_short text x is)
