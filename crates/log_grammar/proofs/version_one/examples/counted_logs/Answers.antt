use Rattle.std.proofs.Common.{refl}
use Rattle.log_grammar.proofs.lemmas.session_laws.SessionCounts.{sessions_are_counted}
use Rattle.log_grammar.proofs.version_one.examples.counted_logs.Goals as goal

pub returns-clause-sessions : goal.returns-clause-sessions
returns-clause-sessions c = sessions_are_counted

pub returns-clause-each : goal.returns-clause-each
returns-clause-each c = λ names client_first server_first client_final server_final text moment counter. refl

pub returns-clause-two_codes : goal.returns-clause-two_codes
returns-clause-two_codes c = λ names client_first server_first client_final server_final one other moment counter. refl
