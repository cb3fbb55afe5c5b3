use Rattle.sasl_desk.proofs.lemmas.turns.DueRecords.{due_lines_stand, bad_lines_stand, gone_clients_stand}
use Rattle.sasl_desk.proofs.laws.records_may_stand.Goals as goal

pub returns-clause-due : goal.returns-clause-due
returns-clause-due c = due_lines_stand

pub returns-clause-bad : goal.returns-clause-bad
returns-clause-bad c = bad_lines_stand

pub returns-clause-gone : goal.returns-clause-gone
returns-clause-gone c = gone_clients_stand
