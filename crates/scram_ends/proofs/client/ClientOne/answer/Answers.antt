use Rattle.scram_ends.proofs.lemmas.Challenges.{refused_is_not_answerable, login_has_challenge_fault}
use Rattle.scram_ends.proofs.client.ClientOne.answer.Goals as goal

pub returns-in-Ok-clause-ok : goal.returns-in-Ok-clause-ok
returns-in-Ok-clause-ok c = λ l started.
    let taken = c.in-Ok.ensures.ok in
    c.composed.ensures l taken.0 started taken.2.is_challenge taken.1

pub returns-in-Err-clause-every : goal.returns-in-Err-clause-every
returns-in-Err-clause-every c = λ l challenge started answerable.
    absurd (refused_is_not_answerable l.limits l.nonce c.args.server_first.now c.in-Err.fault challenge
    (login_has_challenge_fault c.args.self.now l c.args.server_first.now c.in-Err.fault started c.in-Err.ensures.err) answerable)
