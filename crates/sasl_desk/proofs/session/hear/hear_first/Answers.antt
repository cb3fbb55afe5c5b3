use Rattle.std.proofs.Common.{refl}
use Rattle.mac_core.specs.Mechanism.{name_of}
use Rattle.log_grammar.specs.Places.{waits_first}
use Rattle.sasl_desk.proofs.lemmas.turns.NotDue.{only_resp_is_due}
use Rattle.sasl_desk.proofs.session.hear.hear_first.Goals as goal

pub returns-in-Ok-clause-turn : goal.returns-in-Ok-clause-turn
returns-in-Ok-clause-turn g c = λ accounts keeps.
    let name = name_of c.args.mechanism in
    c.answered_line.ensures.turn accounts c.args.server_nonce.now (waits_first name) _ (rw c.in-Resp.is refl)
    (rw c.in-Resp.is (c.in-Ok.ensures.due accounts name keeps refl))

pub returns-in-Abort-clause-turn : goal.returns-in-Abort-clause-turn
returns-in-Abort-clause-turn g c = λ accounts keeps.
    rw (c.in-Abort.is, c.requires.empty) (c.abort_turn.ensures.line accounts c.args.server_nonce.now
    (waits_first (name_of c.args.mechanism)) refl)

pub returns-in-Ok-clause-lines : goal.returns-in-Ok-clause-lines
returns-in-Ok-clause-lines g c = c.answered_line.ensures.lines _ c.in-Ok.ensures.lines

pub returns-in-Abort-clause-lines : goal.returns-in-Abort-clause-lines
returns-in-Abort-clause-lines g c = rw c.requires.empty c.abort_turn.ensures.lines

pub returns-in_default-clause-turn : goal.returns-in_default-clause-turn
returns-in_default-clause-turn g c = λ accounts keeps.
    let at = waits_first (name_of c.args.mechanism) in
    rw c.requires.empty (c.bad_turn.ensures.line accounts c.args.server_nonce.now at _
    (only_resp_is_due at c.args.line refl refl c.in_default.not-Resp c.in_default.not-Abort))

pub returns-in_default-clause-lines : goal.returns-in_default-clause-lines
returns-in_default-clause-lines g c = rw c.requires.empty c.bad_turn.ensures.lines
