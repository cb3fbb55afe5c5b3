use Rattle.std.proofs.Common.{ap}
use Rattle.std.proofs.lemmas.Result.{IfErr-weaker, IfOk-weaker, on_ok_weaker}
use Rattle.sasl_log.specs.Sink.{SinkFacts}
use Rattle.sasl_desk.proofs.lemmas.runs.Stores.{desk_holds_told, told_is_saved}
use Rattle.command_io.specs.HeldBook.{held_shown}
use Rattle.commands.proofs.lemmas.DeskLogs.{desk_stands_at_end}
use Rattle.commands.proofs.lemmas.Faults.{failed_begin_prints_nothing}
use Rattle.commands.proofs.lemmas.LeftBooks.{held_book_leaves_no_reply, saved_replies_leave_book}
use Rattle.commands.proofs.lemmas.Logins.{ended_talk_is_printed, clean_log_is_printed, login_stops_after}
use Rattle.commands.proofs.lemmas.TakenOutputs.{taken_output_holds_log}
use Rattle.commands.proofs.login.talk_over.Goals as goal

pub returns-in-Ok-clause-ok : goal.returns-in-Ok-clause-ok
returns-in-Ok-clause-ok g c =
    let before = ap (λ (f : SinkFacts). f.given) c.new.ensures in
    let after = taken_output_holds_log g.O.Write.contents c.into_writer.ensures c.into_log_and_store-log.ensures.log in
    rw c.into_log_and_store-log.ensures.store
    (on_ok_weaker c.converse-passed.result
    (clean_log_is_printed before (c.in-Ok.ensures.log c.args.login.server_nonce) after)
    c.converse-passed.ensures.clean)

pub returns-in-Ok-clause-err : goal.returns-in-Ok-clause-err
returns-in-Ok-clause-err g c =
    let before = ap (λ (f : SinkFacts). f.given) c.new.ensures in
    let after = taken_output_holds_log g.O.Write.contents c.into_writer.ensures c.into_log_and_store-log.ensures.log in
    rw c.into_log_and_store-log.ensures.store
    (IfErr-weaker c.converse-passed.result _ _
    (λ fault. login_stops_after before (c.in-Ok.ensures.log c.args.login.server_nonce) after)
    c.converse-passed.ensures.after_fault)

pub returns-in-Ok-clause-talk : goal.returns-in-Ok-clause-talk
returns-in-Ok-clause-talk g c =
    let before = ap (λ (f : SinkFacts). f.given) c.new.ensures in
    let after = taken_output_holds_log g.O.Write.contents c.into_writer.ensures c.into_log_and_store-log.ensures.log in
    IfOk-weaker c.converse-passed.result _ _
    (λ passed talk. ended_talk_is_printed _ _ _ _ _ _ _ _ _ passed talk before c.in-Ok.ensures.header after)
    c.converse-passed.ensures.talk

pub returns-in-Err-clause-err : goal.returns-in-Err-clause-err
returns-in-Err-clause-err g c =
    failed_begin_prints_nothing _ _ _ _ _ _ _ _ _ _ (ap (λ (f : SinkFacts). f.given) c.new.ensures) c.into_writer-in-Err.ensures
    c.in-Err.ensures.err

pub returns-in-Ok-clause-left : goal.returns-in-Ok-clause-left
returns-in-Ok-clause-left g c = λ holds.
    let stands = desk_stands_at_end _ c.converse-passed.result c.converse-passed.ensures.log c.converse-passed.ensures.after_fault
    (c.in-Ok.ensures.log c.args.login.server_nonce) in
    rw c.into_log_and_store-log.ensures.store (saved_replies_leave_book (told_is_saved (desk_holds_told stands.1)))

pub returns-in-Err-clause-left : goal.returns-in-Err-clause-left
returns-in-Err-clause-left g c = λ holds.
    held_book_leaves_no_reply (held_shown g.S.BookStore.facts c.args.login.held)
    (g.S.BookStore.facts c.in-Err.store) c.in-Err.ensures.left holds
