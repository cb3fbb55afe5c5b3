use Rattle.log_grammar.proofs.lemmas.login_laws.OtherAnswers.{refused_logins_are_at_fault, other_replies_are_at_fault}
use Rattle.log_grammar.proofs.version_one.logins.other_answers_to_logins_are_at_fault.Goals as goal

pub returns-clause-refused : goal.returns-clause-refused
returns-clause-refused c = refused_logins_are_at_fault

pub returns-clause-answered : goal.returns-clause-answered
returns-clause-answered c = other_replies_are_at_fault
