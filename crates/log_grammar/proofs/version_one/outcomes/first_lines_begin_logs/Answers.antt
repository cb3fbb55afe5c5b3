use Rattle.log_grammar.proofs.lemmas.outcome_laws.ServerLines.{first_lines_begin_logs}
use Rattle.log_grammar.proofs.version_one.outcomes.first_lines_begin_logs.Goals as goal

pub returns : goal.returns
returns c = first_lines_begin_logs
