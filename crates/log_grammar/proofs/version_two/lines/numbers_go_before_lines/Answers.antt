use Rattle.log_grammar.proofs.lemmas.lines.NumberedReadBack.{line_iff_numbered_line, numbered_text_shows_number}
use Rattle.log_grammar.proofs.version_two.lines.numbers_go_before_lines.Goals as goal

pub returns : goal.returns
returns c =
    λ n text number. (λ line has. line_iff_numbered_line n text line number has, λ x is. numbered_text_shows_number n text x number is)
