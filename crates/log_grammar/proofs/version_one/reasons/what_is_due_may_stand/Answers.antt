use Rattle.log_grammar.proofs.lemmas.reason_laws.DueLines.{each_line_that_is_due_may_stand}
use Rattle.log_grammar.proofs.lemmas.reason_laws.Mended.{what_is_due_may_stand}
use Rattle.log_grammar.proofs.version_one.reasons.what_is_due_may_stand.Goals as goal

pub returns-clause-some : goal.returns-clause-some
returns-clause-some c = what_is_due_may_stand

pub returns-clause-each : goal.returns-clause-each
returns-clause-each c = each_line_that_is_due_may_stand
