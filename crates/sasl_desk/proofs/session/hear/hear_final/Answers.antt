use Rattle.std.proofs.Common.{refl}
use Rattle.sasl_desk.proofs.lemmas.turns.NotDue.{only_resp_is_due}
use Rattle.sasl_desk.proofs.session.hear.hear_final.Goals as goal

pub returns-in-Ok-clause-turn : goal.returns-in-Ok-clause-turn
returns-in-Ok-clause-turn g c = λ accounts server_nonce at is.
    let (client_first, server_first, place, stands) = is in
    c.answered_line.ensures.turn accounts server_nonce at _ (rw (c.in-Resp.is, place) refl)
    (rw (c.in-Resp.is, place) (c.in-Ok.ensures.due accounts server_nonce client_first server_first stands))

pub returns-in-Abort-clause-turn : goal.returns-in-Abort-clause-turn
returns-in-Abort-clause-turn g c = λ accounts server_nonce at is.
    let (client_first, server_first, place, stands) = is in
    rw (c.in-Abort.is, c.requires.empty) (c.abort_turn.ensures.line accounts server_nonce at (rw place refl))

pub returns-in-Ok-clause-lines : goal.returns-in-Ok-clause-lines
returns-in-Ok-clause-lines g c = c.answered_line.ensures.lines _ c.in-Ok.ensures.lines

pub returns-in-Abort-clause-lines : goal.returns-in-Abort-clause-lines
returns-in-Abort-clause-lines g c = rw c.requires.empty c.abort_turn.ensures.lines

pub returns-in_default-clause-turn : goal.returns-in_default-clause-turn
returns-in_default-clause-turn g c = λ accounts server_nonce at is.
    let (client_first, server_first, place, stands) = is in
    rw c.requires.empty (c.bad_turn.ensures.line accounts server_nonce at _
    (only_resp_is_due at c.args.line (rw place refl) (rw place refl) c.in_default.not-Resp c.in_default.not-Abort))

pub returns-in_default-clause-lines : goal.returns-in_default-clause-lines
returns-in_default-clause-lines g c = rw c.requires.empty c.bad_turn.ensures.lines
