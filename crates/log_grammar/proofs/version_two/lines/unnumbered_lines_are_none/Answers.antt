use Rattle.std.proofs.Common.{sym, subst}
use Rattle.log_grammar.specs.NumberedLines.{IsNoNumberedLine}
use Rattle.log_grammar.proofs.lemmas.lines.NumberedReadBack.{line_text_is_unnumbered}
use Rattle.log_grammar.proofs.version_two.lines.unnumbered_lines_are_none.Goals as goal

pub returns : goal.returns
returns c = λ text line is. subst IsNoNumberedLine (sym is.spelled) (line_text_is_unnumbered line)
