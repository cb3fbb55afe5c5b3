use Rattle.log_grammar.specs.Versions.{any_version}
use Rattle.log_grammar.proofs.lemmas.kinds.Fronts.{fronts_begin_with_fronts}
use Rattle.log_grammar.proofs.lemmas.kinds.AllVersions.{any_version_can_be_shortened}
use Rattle.log_grammar.proofs.logs.fronts_begin_with_fronts.Goals as goal

pub returns : goal.returns
returns c = λ accounts. fronts_begin_with_fronts (any_version accounts) (any_version_can_be_shortened accounts)
