use Rattle.sasl_desk.proofs.lemmas.turns.DueAnswers.{invitation_is_due}
use Rattle.sasl_desk.proofs.session.answer.answer_to_auth.Goals as goal

pub returns-in-Some-clause-due : goal.returns-in-Some-clause-due
returns-in-Some-clause-due c = λ accounts server_nonce.
    invitation_is_due accounts server_nonce c.args.mechanism_name.now c.in-Some.mechanism
    c.in-Some.ensures.some
