use Rattle.log_grammar.specs.Versions.{any_version}
use Rattle.log_grammar.proofs.lemmas.kinds.OneFault.{one_fault_line}
use Rattle.log_grammar.proofs.logs.has_one_fault_line.Goals as goal

pub returns : goal.returns
returns c = λ accounts. one_fault_line (any_version accounts)
