use Rattle.log_grammar.proofs.lemmas.lines.Written.{heard_line_is_writable}
use Rattle.sasl_desk.proofs.session.hear.answered_line.Goals as goal

pub returns-clause-lines : goal.returns-clause-lines
returns-clause-lines c = λ message lines. (heard_line_is_writable _ c.requires, lines)
