use Rattle.log_grammar.proofs.lemmas.whole_sessions.BothVersions.{clean_logs_are_of_whole_sessions}
use Rattle.log_grammar.proofs.logs.clean_logs_are_of_whole_sessions.Goals as goal

pub returns : goal.returns
returns c = clean_logs_are_of_whole_sessions
