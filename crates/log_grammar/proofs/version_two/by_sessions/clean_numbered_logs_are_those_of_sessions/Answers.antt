use Rattle.log_grammar.proofs.lemmas.session_laws.NumberedOfSessions.{clean_numbered_logs_are_those_of_sessions}
use Rattle.log_grammar.proofs.version_two.by_sessions.clean_numbered_logs_are_those_of_sessions.Goals as goal

pub returns : goal.returns
returns c = clean_numbered_logs_are_those_of_sessions
