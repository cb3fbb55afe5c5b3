use Rattle.log_grammar.proofs.lemmas.small_logs.Edges.{short_bytes_are_cut, long_bytes_are_no_line}
use Rattle.log_grammar.proofs.version_one.examples.lines_end_with_lf.Goals as goal

pub returns-clause-short : goal.returns-clause-short
returns-clause-short c = short_bytes_are_cut

pub returns-clause-long : goal.returns-clause-long
returns-clause-long c = long_bytes_are_no_line
