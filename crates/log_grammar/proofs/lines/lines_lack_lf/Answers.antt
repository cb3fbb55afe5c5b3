use Rattle.log_grammar.proofs.lemmas.lines.LackLf.{lines_lack_lf}
use Rattle.log_grammar.proofs.lines.lines_lack_lf.Goals as goal

pub returns : goal.returns
returns c = lines_lack_lf
