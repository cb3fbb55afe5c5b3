use Rattle.log_grammar.specs.VersionTwo.{version_two}
use Rattle.log_grammar.proofs.lemmas.kinds.OneFault.{one_fault_line}
use Rattle.log_grammar.proofs.version_two.logs.has_one_numbered_fault_line.Goals as goal

pub returns : goal.returns
returns c = λ limit accounts. one_fault_line (version_two limit accounts)
