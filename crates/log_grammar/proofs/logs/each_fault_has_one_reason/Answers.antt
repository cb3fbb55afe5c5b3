use Rattle.log_grammar.specs.Versions.{any_version}
use Rattle.log_grammar.proofs.lemmas.kinds.OneFault.{one_fault_reason}
use Rattle.log_grammar.proofs.lemmas.kinds.AllVersions.{any_version_has_one_reason}
use Rattle.log_grammar.proofs.logs.each_fault_has_one_reason.Goals as goal

pub returns : goal.returns
returns c = λ accounts. one_fault_reason (any_version accounts) (any_version_has_one_reason accounts)
