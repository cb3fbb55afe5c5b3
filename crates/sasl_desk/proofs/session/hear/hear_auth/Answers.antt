use Rattle.std.proofs.Common.{[], refl}
use Rattle.log_grammar.specs.Places.{offered}
use Rattle.sasl_desk.proofs.lemmas.turns.NotDue.{only_auth_is_due}
use Rattle.sasl_desk.proofs.session.hear.hear_auth.Goals as goal

pub returns-in-Auth-clause-turn : goal.returns-in-Auth-clause-turn
returns-in-Auth-clause-turn g c = λ accounts keeps.
    rw c.requires.empty (c.answered_line.ensures.turn accounts c.args.server_nonce.now offered [] (rw c.in-Auth.is refl)
    (rw c.in-Auth.is (c.answer_to_auth-answer.ensures.due accounts c.args.server_nonce.now)))

pub returns-in-Ok-clause-turn : goal.returns-in-Ok-clause-turn
returns-in-Ok-clause-turn g c = λ accounts keeps.
    c.answered_line-in-Ok.ensures.turn accounts c.args.server_nonce.now offered _ (rw c.in-AuthWith.is refl)
    (rw c.in-AuthWith.is (c.in-Ok.ensures.due accounts keeps))

pub returns-in-Abort-clause-turn : goal.returns-in-Abort-clause-turn
returns-in-Abort-clause-turn g c = λ accounts keeps. rw (c.in-Abort.is, c.requires.empty)
    (c.abort_turn.ensures.line accounts c.args.server_nonce.now offered refl)

pub returns-in-Auth-clause-lines : goal.returns-in-Auth-clause-lines
returns-in-Auth-clause-lines g c = rw c.requires.empty (c.answered_line.ensures.lines [] c.answer_to_auth-answer.ensures.lines)

pub returns-in-Ok-clause-lines : goal.returns-in-Ok-clause-lines
returns-in-Ok-clause-lines g c = c.answered_line-in-Ok.ensures.lines _ c.in-Ok.ensures.lines

pub returns-in-Abort-clause-lines : goal.returns-in-Abort-clause-lines
returns-in-Abort-clause-lines g c = rw c.requires.empty c.abort_turn.ensures.lines

pub returns-in_default-clause-turn : goal.returns-in_default-clause-turn
returns-in_default-clause-turn g c = λ accounts keeps. rw c.requires.empty
    (c.bad_turn.ensures.line accounts c.args.server_nonce.now offered _
    (only_auth_is_due c.args.line c.in_default.not-Auth c.in_default.not-AuthWith c.in_default.not-Abort))

pub returns-in_default-clause-lines : goal.returns-in_default-clause-lines
returns-in_default-clause-lines g c = rw c.requires.empty c.bad_turn.ensures.lines
