use Rattle.std.proofs.Common.{ap, arith, length, length-append}
use Rattle.scram_ends.proofs.lemmas.HonestLogins.{honest_final_is_short}
use Rattle.scram_ends.proofs.lemmas.Challenges.{refused_is_not_answerable, login_has_challenge_fault}
use Rattle.scram_ends.proofs.client.ClientOne.first.Goals as goal

pub returns-in-Ok-append_answer-clause-ok : goal.returns-in-Ok-append_answer-clause-ok
returns-in-Ok-append_answer-clause-ok g c = λ l started.
    let taken = c.in-Ok.ensures.ok in
    c.in-Ok-append_answer.ensures.ok l taken.0 started taken.2.is_challenge taken.1

pub returns-in-Ok-append_answer-clause-most_bytes : goal.returns-in-Ok-append_answer-clause-most_bytes
returns-in-Ok-append_answer-clause-most_bytes g c = λ l started.
    let taken = c.in-Ok.ensures.ok in
    let sent = c.in-Ok-append_answer.ensures.ok l taken.0 started taken.2.is_challenge taken.1 in
    omega (arith, ap length sent.1, length-append c.args.out.now.items sent.0, honest_final_is_short _ sent.2.honest)

pub returns-in-Err-append_answer-clause-no_memory : goal.returns-in-Err-append_answer-clause-no_memory
returns-in-Err-append_answer-clause-no_memory g c = λ l started.
    let taken = c.in-Ok.ensures.ok in
    c.in-Err-append_answer.ensures.no_memory l taken.0 started taken.2.is_challenge taken.1

pub returns-in-Err-clause-every : goal.returns-in-Err-clause-every
returns-in-Err-clause-every g c = λ l challenge started answerable.
    absurd (refused_is_not_answerable l.limits l.nonce c.args.server_first.now c.in-Err.fault challenge
    (login_has_challenge_fault c.args.self l c.args.server_first.now c.in-Err.fault started c.in-Err.ensures.err) answerable)
