use Rattle.std.proofs.Common.{ap}
use Rattle.std.proofs.lemmas.Result.{IfErr-weaker, on_ok_weaker}
use Rattle.sasl_log.specs.Sink.{SinkFacts}
use Rattle.sasl_desk.proofs.lemmas.halls.Stores.{hall_holds_told}
use Rattle.sasl_desk.proofs.lemmas.runs.Stores.{told_is_saved}
use Rattle.command_io.specs.HeldBook.{held_shown}
use Rattle.commands.proofs.lemmas.Faults.{failed_begin_excludes_bad_event, failed_begin_prints_nothing, failed_begin_stops_hearing}
use Rattle.commands.proofs.lemmas.HeardLines.{hall_prints_its_log, hall_prints_to_bad_event, hall_stands_at_end, hall_stops_after}
use Rattle.commands.proofs.lemmas.LeftBooks.{held_book_leaves_no_reply, saved_replies_leave_book}
use Rattle.commands.proofs.lemmas.TakenOutputs.{taken_output_holds_log}
use Rattle.commands.proofs.hall.hear_input.Goals as goal

-- the hall heard what the lines say, and its log, from which the output was taken back, is a front
pub returns-in-Ok-clause-ok : goal.returns-in-Ok-clause-ok
returns-in-Ok-clause-ok g c =
    let before = ap (λ (f : SinkFacts). f.given) c.new.ensures in
    let after = taken_output_holds_log g.O.Write.contents c.into_writer.ensures c.into_log_and_store-log.ensures.log in
    rw c.into_log_and_store-log.ensures.store
    (on_ok_weaker c.hear_lines-heard.result
    (hall_prints_its_log before after c.in-Ok.ensures.log)
    (rw c.new-lines.ensures.input at c.hear_lines-heard.ensures.ok))

pub returns-in-Ok-clause-err : goal.returns-in-Ok-clause-err
returns-in-Ok-clause-err g c =
    let before = ap (λ (f : SinkFacts). f.given) c.new.ensures in
    let after = taken_output_holds_log g.O.Write.contents c.into_writer.ensures c.into_log_and_store-log.ensures.log in
    rw c.into_log_and_store-log.ensures.store
    (IfErr-weaker c.hear_lines-heard.result _ _
    (λ fault. hall_stops_after before after c.in-Ok.ensures.log fault)
    (rw c.new-lines.ensures.input at c.hear_lines-heard.ensures.err))

pub returns-in-Err-clause-err : goal.returns-in-Err-clause-err
returns-in-Err-clause-err g c =
    failed_begin_prints_nothing _ _ _ _ _ _ _ _ _ _ (ap (λ (f : SinkFacts). f.given) c.new.ensures) c.into_writer-in-Err.ensures
    c.in-Err.ensures.err

pub returns-in-Ok-clause-bad : goal.returns-in-Ok-clause-bad
returns-in-Ok-clause-bad g c = λ is.
    let before = ap (λ (f : SinkFacts). f.given) c.new.ensures in
    let after = taken_output_holds_log g.O.Write.contents c.into_writer.ensures c.into_log_and_store-log.ensures.log in
    rw c.into_log_and_store-log.ensures.store
    (hall_prints_to_bad_event before after c.in-Ok.ensures.log
    (rw c.new-lines.ensures.input at (c.hear_lines-heard.ensures.bad is)))

pub returns-in-Err-clause-bad : goal.returns-in-Err-clause-bad
returns-in-Err-clause-bad g c = λ is. absurd (failed_begin_excludes_bad_event _ _ _ _ _ _ _ c.in-Err.ensures.err (cc is))

pub returns-in-Err-clause-why : goal.returns-in-Err-clause-why
returns-in-Err-clause-why g c = failed_begin_stops_hearing _ _ _ _ _ _ _ c.in-Err.ensures.err

pub returns-in-Ok-clause-left : goal.returns-in-Ok-clause-left
returns-in-Ok-clause-left g c = λ holds.
    let stands = hall_stands_at_end _ _ c.hear_lines-heard.result c.hear_lines-heard.ensures.ok c.hear_lines-heard.ensures.err
    c.in-Ok.ensures.log in
    rw c.into_log_and_store-log.ensures.store (saved_replies_leave_book (told_is_saved (hall_holds_told stands.1)))

pub returns-in-Err-clause-left : goal.returns-in-Err-clause-left
returns-in-Err-clause-left g c = λ holds.
    held_book_leaves_no_reply (held_shown g.S.BookStore.facts c.args.held) (g.S.BookStore.facts c.in-Err.store)
    c.in-Err.ensures.left holds
