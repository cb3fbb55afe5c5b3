use Rattle.std.proofs.Common.{[], sym, subst}
use Rattle.log_grammar.specs.Places.{Place}
use Rattle.sasl_log.specs.Shown.{client_shown}
use Rattle.sasl_desk.specs.inner.SessionTurns.{IsTurnOnLine, ComesOfLine}
use Rattle.sasl_desk.proofs.session.Session.hear_line.Goals as goal

pub returns-in_ok-hear_auth-in-WaitAuth-clause-heard : goal.returns-in_ok-hear_auth-in-WaitAuth-clause-heard
returns-in_ok-hear_auth-in-WaitAuth-clause-heard g c = λ accounts at keeps is.
    let here = rw c.in-WaitAuth.is at is in
    subst (λ (p : Place). IsTurnOnLine accounts c.args.server_nonce.now
    (client_shown c.args.line) p c.in_ok-hear_auth-in-WaitAuth.field-0 c.hear_auth.new.message.items)
    (sym here) (c.in_ok-hear_auth-in-WaitAuth.ensures.turn accounts keeps)

pub returns-in_ok-hear_first-in-WaitFirst-clause-heard : goal.returns-in_ok-hear_first-in-WaitFirst-clause-heard
returns-in_ok-hear_first-in-WaitFirst-clause-heard g c = λ accounts at keeps is.
    let here = rw c.in-WaitFirst.is at is in
    subst (λ (p : Place). IsTurnOnLine accounts c.args.server_nonce.now
    (client_shown c.args.line) p c.in_ok-hear_first-in-WaitFirst.field-0 c.hear_first.new.message.items)
    (sym here) (c.in_ok-hear_first-in-WaitFirst.ensures.turn accounts keeps)

pub returns-in_ok-hear_final-in-WaitFinal-clause-heard : goal.returns-in_ok-hear_final-in-WaitFinal-clause-heard
returns-in_ok-hear_final-in-WaitFinal-clause-heard g c = λ accounts at keeps is.
    c.in_ok-hear_final-in-WaitFinal.ensures.turn accounts c.args.server_nonce.now at (rw c.in-WaitFinal.is at is)

pub returns-in-WaitCode-clause-heard : goal.returns-in-WaitCode-clause-heard
returns-in-WaitCode-clause-heard g c = λ accounts at keeps is.
    let here = rw c.in-WaitCode.is at is in
    rw c.requires.empty
    (subst (λ (p : Place). ComesOfLine accounts c.args.server_nonce.now (client_shown c.args.line) p c.hear_code.result []) (sym here)
    (c.hear_code.ensures.heard accounts c.args.server_nonce.now))

pub returns-in-WaitCode-clause-waits : goal.returns-in-WaitCode-clause-waits
returns-in-WaitCode-clause-waits g c = rw c.in-WaitCode.is c.hear_code.ensures.waits
