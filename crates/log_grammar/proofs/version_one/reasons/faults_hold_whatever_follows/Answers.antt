use Rattle.log_grammar.specs.Versions.{any_version}
use Rattle.log_grammar.proofs.lemmas.kinds.FaultLines.{faults_hold_whatever_follows}
use Rattle.log_grammar.proofs.lemmas.kinds.AllVersions.{any_version_can_be_shortened}
use Rattle.log_grammar.proofs.version_one.reasons.faults_hold_whatever_follows.Goals as goal

pub returns : goal.returns
returns c = λ accounts. faults_hold_whatever_follows (any_version accounts) (any_version_can_be_shortened accounts)
