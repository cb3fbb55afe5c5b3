use Rattle.log_grammar.proofs.lemmas.kinds.OneAnswer.{fronts_are_what_begins_clean_logs}
use Rattle.log_grammar.proofs.logs.fronts_are_what_begins_clean_logs.Goals as goal

pub returns : goal.returns
returns c = fronts_are_what_begins_clean_logs
