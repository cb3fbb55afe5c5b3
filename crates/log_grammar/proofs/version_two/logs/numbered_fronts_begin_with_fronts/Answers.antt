use Rattle.log_grammar.specs.VersionTwo.{version_two}
use Rattle.log_grammar.proofs.lemmas.kinds.Fronts.{fronts_begin_with_fronts}
use Rattle.log_grammar.proofs.lemmas.kinds.VersionTwo.{version_two_can_be_shortened}
use Rattle.log_grammar.proofs.version_two.logs.numbered_fronts_begin_with_fronts.Goals as goal

pub returns : goal.returns
returns c = λ limit accounts. fronts_begin_with_fronts (version_two limit accounts) (version_two_can_be_shortened limit accounts)
