use Rattle.log_grammar.proofs.lemmas.reason_laws.NumberedMended.{what_is_due_may_stand_under_its_number, each_numbered_line_that_is_due_may_stand}
use Rattle.log_grammar.proofs.version_two.reasons.what_is_due_may_stand_under_its_number.Goals as goal

pub returns-clause-some : goal.returns-clause-some
returns-clause-some c = what_is_due_may_stand_under_its_number

pub returns-clause-each : goal.returns-clause-each
returns-clause-each c = each_numbered_line_that_is_due_may_stand
