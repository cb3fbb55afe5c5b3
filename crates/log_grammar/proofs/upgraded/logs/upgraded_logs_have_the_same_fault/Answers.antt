use Rattle.log_grammar.proofs.lemmas.upgraded_logs.SameFault.{upgraded_logs_have_the_same_fault}
use Rattle.log_grammar.proofs.upgraded.logs.upgraded_logs_have_the_same_fault.Goals as goal

pub returns : goal.returns
returns c = upgraded_logs_have_the_same_fault
