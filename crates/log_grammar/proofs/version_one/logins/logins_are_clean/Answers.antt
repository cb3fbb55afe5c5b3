use Rattle.log_grammar.proofs.lemmas.login_laws.CleanLogins.{logins_are_clean, logins_may_halt, logins_are_answered}
use Rattle.log_grammar.proofs.version_one.logins.logins_are_clean.Goals as goal

pub returns-clause-gone : goal.returns-clause-gone
returns-clause-gone c = logins_are_clean

pub returns-clause-halted : goal.returns-clause-halted
returns-clause-halted c = logins_may_halt

pub returns-clause-answered : goal.returns-clause-answered
returns-clause-answered c = logins_are_answered
