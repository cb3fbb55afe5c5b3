use Rattle.log_grammar.proofs.lemmas.fault_laws.Faults.{fault_lines_are_of_whole_logs}
use Rattle.log_grammar.proofs.logs.fault_lines_are_of_whole_logs.Goals as goal

pub returns : goal.returns
returns c = fault_lines_are_of_whole_logs
