use Rattle.log_grammar.proofs.lemmas.whole_sessions.BothVersions.{fronts_are_what_begins_whole_logs}
use Rattle.log_grammar.proofs.logs.fronts_are_what_begins_whole_logs.Goals as goal

pub returns : goal.returns
returns c = fronts_are_what_begins_whole_logs
