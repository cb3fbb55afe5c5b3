use Rattle.std.proofs.Common.{refl}
use Rattle.log_grammar.specs.Places.{waits_code}
use Rattle.log_grammar.proofs.lemmas.lines.Written.{heard_line_is_writable}
use Rattle.sasl_desk.proofs.lemmas.turns.NotDue.{only_codes_are_due}
use Rattle.sasl_desk.proofs.session.hear.hear_code.Goals as goal

pub returns-in-Abort-clause-heard : goal.returns-in-Abort-clause-heard
returns-in-Abort-clause-heard c = λ accounts server_nonce. rw c.in-Abort.is
    (c.abort_turn.ensures.line accounts server_nonce (waits_code c.args.name) refl)

pub returns-in-Code-clause-lines : goal.returns-in-Code-clause-lines
returns-in-Code-clause-lines c = (heard_line_is_writable _ (rw c.in-Code.is at c.requires), tt)

pub returns-in-Sync-clause-lines : goal.returns-in-Sync-clause-lines
returns-in-Sync-clause-lines c = (heard_line_is_writable _ (rw c.in-Sync.is at c.requires), tt)

pub returns-in_default-clause-heard : goal.returns-in_default-clause-heard
returns-in_default-clause-heard c = λ accounts server_nonce. c.bad_turn.ensures.line accounts server_nonce (waits_code c.args.name) _
    (only_codes_are_due c.args.name c.args.line c.in_default.not-Code c.in_default.not-Sync c.in_default.not-Abort)
