use Rattle.sasl_desk.proofs.lemmas.turns.DueAnswers.{end_is_due_after_departure}
use Rattle.sasl_desk.proofs.session.answer.silence.Goals as goal

pub returns-clause-due : goal.returns-clause-due
returns-clause-due c = end_is_due_after_departure
