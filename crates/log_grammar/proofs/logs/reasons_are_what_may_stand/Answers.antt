use Rattle.log_grammar.proofs.lemmas.fault_laws.Faults.{reasons_are_what_may_stand}
use Rattle.log_grammar.proofs.logs.reasons_are_what_may_stand.Goals as goal

pub returns : goal.returns
returns c = reasons_are_what_may_stand
