use Rattle.log_grammar.specs.VersionTwo.{version_two}
use Rattle.log_grammar.proofs.lemmas.kinds.Judged.{each_log_is_judged}
use Rattle.log_grammar.proofs.lemmas.kinds.VersionTwo.{version_two_is_sound}
use Rattle.log_grammar.proofs.version_two.logs.each_numbered_log_is_judged.Goals as goal

pub returns : goal.returns
returns c =
    λ limit accounts. each_log_is_judged (version_two limit accounts) (version_two_is_sound limit accounts)
