use Rattle.log_grammar.proofs.lemmas.kinds.OneAnswer.{fault_lines_begin_no_clean_log}
use Rattle.log_grammar.proofs.version_one.by_sessions.fault_lines_begin_no_clean_log.Goals as goal

pub returns : goal.returns
returns c = fault_lines_begin_no_clean_log
