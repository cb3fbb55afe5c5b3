use Rattle.log_grammar.proofs.lemmas.login_laws.Upgraded.{upgraded_refusals_are_at_fault, upgraded_replies_are_at_fault}
use Rattle.log_grammar.proofs.upgraded.logins.other_answers_to_upgraded_logins_are_at_fault.Goals as goal

pub returns-clause-refused : goal.returns-clause-refused
returns-clause-refused c = upgraded_refusals_are_at_fault

pub returns-clause-answered : goal.returns-clause-answered
returns-clause-answered c = upgraded_replies_are_at_fault
