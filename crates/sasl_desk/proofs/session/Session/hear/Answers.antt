use Rattle.std.proofs.lemmas.Result.{IfOk-weaker, on_err_weaker}
use Rattle.sasl_log.specs.Shown.{client_shown}
use Rattle.sasl_desk.specs.Events.{sends, goes_away}
use Rattle.sasl_desk.proofs.lemmas.turns.HeardLines.{line_result_is_event_result, text_of_no_line_is_recorded_bad, judged_code_was_sent}
use Rattle.sasl_desk.proofs.session.Session.hear.Goals as goal

pub returns-in-Gone-clause-heard : goal.returns-in-Gone-clause-heard
returns-in-Gone-clause-heard g c = λ accounts at keeps is. rw (c.in-Gone.is, c.requires)
    (c.gone_turn.ensures.turn accounts c.args.server_nonce.now at goes_away tt)

pub returns-in-Some-clause-heard : goal.returns-in-Some-clause-heard
returns-in-Some-clause-heard g c = λ accounts at keeps is.
    rw c.in-Line.is
    (IfOk-weaker c.hear_line.result _ _
    (λ heard came. line_result_is_event_result accounts c.args.server_nonce.now
    (sends c.in-Line.text.now) (client_shown c.in-Some.line) at heard c.hear_line.new.message.items c.in-Some.ensures.some came)
    (c.hear_line.ensures.heard accounts at keeps is))

pub returns-in-None-clause-heard : goal.returns-in-None-clause-heard
returns-in-None-clause-heard g c = λ accounts at keeps is.
    rw (c.in-Line.is, c.requires)
    (c.bad_turn.ensures.turn accounts c.args.server_nonce.now at (sends c.in-Line.text.now)
    (text_of_no_line_is_recorded_bad (sends c.in-Line.text.now) at c.in-None.ensures.none (λ same. cc same)))

pub returns-in-Some-clause-sent : goal.returns-in-Some-clause-sent
returns-in-Some-clause-sent g c =
    rw c.in-Line.is
    (IfOk-weaker c.hear_line.result _ _
    (λ heard judges. judged_code_was_sent (sends c.in-Line.text.now) (client_shown c.in-Some.line) heard c.in-Some.ensures.some judges)
    c.hear_line.ensures.sent)

pub returns-in-Some-clause-no_memory : goal.returns-in-Some-clause-no_memory
returns-in-Some-clause-no_memory g c =
    rw c.in-Line.is
    (on_err_weaker c.hear_line.result (λ bears. (client_shown c.in-Some.line, c.in-Some.ensures.some, bears)) c.hear_line.ensures.no_memory)
