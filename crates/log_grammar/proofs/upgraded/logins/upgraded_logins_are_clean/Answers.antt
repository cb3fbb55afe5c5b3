use Rattle.log_grammar.proofs.lemmas.login_laws.Upgraded.{upgraded_logins_stay_clean, upgraded_logins_may_halt, upgraded_logins_are_answered}
use Rattle.log_grammar.proofs.upgraded.logins.upgraded_logins_are_clean.Goals as goal

pub returns-clause-gone : goal.returns-clause-gone
returns-clause-gone c = upgraded_logins_stay_clean

pub returns-clause-halted : goal.returns-clause-halted
returns-clause-halted c = upgraded_logins_may_halt

pub returns-clause-answered : goal.returns-clause-answered
returns-clause-answered c = upgraded_logins_are_answered
