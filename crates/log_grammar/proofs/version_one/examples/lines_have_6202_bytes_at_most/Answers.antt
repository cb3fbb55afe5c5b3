use Rattle.log_grammar.proofs.lemmas.small_logs.Edges.{unended_line_is_cut, long_unended_line_is_no_line, long_line_is_no_line}
use Rattle.log_grammar.proofs.lemmas.small_logs.Edges.{long_second_is_no_line, long_unended_second_is_no_line, unended_second_is_cut}
use Rattle.log_grammar.proofs.version_one.examples.lines_have_6202_bytes_at_most.Goals as goal

pub returns-clause-part : goal.returns-clause-part
returns-clause-part c = unended_line_is_cut

pub returns-clause-long_part : goal.returns-clause-long_part
returns-clause-long_part c = long_unended_line_is_no_line

pub returns-clause-long_line : goal.returns-clause-long_line
returns-clause-long_line c = long_line_is_no_line

pub returns-clause-second : goal.returns-clause-second
returns-clause-second c = long_second_is_no_line

pub returns-clause-second_part : goal.returns-clause-second_part
returns-clause-second_part c = long_unended_second_is_no_line

pub returns-clause-second_cut : goal.returns-clause-second_cut
returns-clause-second_cut c = unended_second_is_cut
