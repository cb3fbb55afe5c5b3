use Rattle.log_grammar.specs.Versions.{any_version}
use Rattle.log_grammar.proofs.lemmas.kinds.Fronts.{clean_log_is_front}
use Rattle.log_grammar.proofs.lemmas.kinds.AllVersions.{any_version_clean_lines_stand}
use Rattle.log_grammar.proofs.logs.clean_logs_are_fronts.Goals as goal

pub returns : goal.returns
returns c = λ accounts. clean_log_is_front (any_version accounts) (any_version_clean_lines_stand accounts)
