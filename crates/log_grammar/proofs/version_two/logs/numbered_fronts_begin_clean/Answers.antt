use Rattle.log_grammar.proofs.lemmas.completions.NumberedFronts.{version_two_fronts_begin_clean}
use Rattle.log_grammar.proofs.version_two.logs.numbered_fronts_begin_clean.Goals as goal

pub returns : goal.returns
returns c = version_two_fronts_begin_clean
