use Rattle.log_grammar.proofs.lemmas.kinds.OneAnswer.{each_log_of_any_version_is_judged}
use Rattle.log_grammar.proofs.logs.each_log_is_judged.Goals as goal

pub returns : goal.returns
returns c = each_log_of_any_version_is_judged
