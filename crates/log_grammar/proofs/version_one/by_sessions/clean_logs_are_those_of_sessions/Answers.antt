use Rattle.log_grammar.proofs.lemmas.session_laws.OfSessions.{clean_logs_are_those_of_sessions}
use Rattle.log_grammar.proofs.version_one.by_sessions.clean_logs_are_those_of_sessions.Goals as goal

pub returns : goal.returns
returns c = clean_logs_are_those_of_sessions
