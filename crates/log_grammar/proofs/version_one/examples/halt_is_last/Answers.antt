use Rattle.log_grammar.proofs.lemmas.small_logs.Edges.{halted_is_clean, no_class_is_due_after_halt, line_after_halt_is_at_fault}
use Rattle.log_grammar.proofs.version_one.examples.halt_is_last.Goals as goal

pub returns-clause-clean : goal.returns-clause-clean
returns-clause-clean c = halted_is_clean

pub returns-clause-none : goal.returns-clause-none
returns-clause-none c = no_class_is_due_after_halt

pub returns-clause-more : goal.returns-clause-more
returns-clause-more c = line_after_halt_is_at_fault
