use Rattle.log_grammar.specs.VersionTwo.{version_two}
use Rattle.log_grammar.proofs.lemmas.kinds.OneFault.{one_fault_reason}
use Rattle.log_grammar.proofs.lemmas.kinds.VersionTwo.{version_two_has_one_reason}
use Rattle.log_grammar.proofs.version_two.logs.each_numbered_fault_has_one_reason.Goals as goal

pub returns : goal.returns
returns c = λ limit accounts. one_fault_reason (version_two limit accounts) (version_two_has_one_reason limit accounts)
