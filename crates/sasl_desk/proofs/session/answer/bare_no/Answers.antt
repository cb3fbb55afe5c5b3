use Rattle.sasl_desk.proofs.lemmas.turns.DueAnswers.{bare_refusal_is_due}
use Rattle.sasl_desk.proofs.session.answer.bare_no.Goals as goal

pub returns-clause-due : goal.returns-clause-due
returns-clause-due c = bare_refusal_is_due
