use Rattle.std.proofs.Common.{inl, inr, refl}
use Rattle.command_io.proofs.lemmas.Results.{handed_fault_keeps_fact}
use Rattle.command_io.proofs.lemmas.LinesInTurn.{run_comes_past_line, run_at_end_worked_all, run_before_line_worked_first, run_at_line_worked_first}
use Rattle.commands.specs.Verify.{verify_run_shown, AnswersLine}
use Rattle.commands.proofs.verify.answer_lines.Goals as goal

pub returns-in_err-line-clause-err : goal.returns-in_err-line-clause-err
returns-in_err-line-clause-err g c =
    let stop =
    run_before_line_worked_first (AnswersLine g.S.BookStore.IsStored c.args.name.now c.args.moment) (g.I.Read.remaining c.args.input.now)
    (verify_run_shown g.S.BookStore.facts c.args.held.now (g.O.Write.contents c.args.output.now)) c.loop-line.all_passed
    (g.I.Read.remaining c.loop-line.lines.input.now)
    (verify_run_shown g.S.BookStore.facts c.loop-line.held (g.O.Write.contents c.loop-line.output)) c.loop-line.invariant in
    handed_fault_keeps_fact c.from_residual.result _ _ c.from_residual.ensures.1
    (inl (stop.0, c.loop-line.all_passed, stop.1, c.in_err-line.ensures.err))

pub returns-in_err-reply-clause-err : goal.returns-in_err-reply-clause-err
returns-in_err-reply-clause-err g c =
    let (has_lf, takes, some, counted) = rw c.in-Some.is at c.in_ok-line.ensures.line in
    let fault = rw c.as_slice.ensures.value at c.in_err-reply.ensures.err in
    let middle = verify_run_shown g.S.BookStore.facts c.loop-line.held (g.O.Write.contents c.loop-line.output) in
    let stop =
    run_at_line_worked_first (AnswersLine g.S.BookStore.IsStored c.args.name.now c.args.moment) (g.I.Read.remaining c.args.input.now)
    (verify_run_shown g.S.BookStore.facts c.args.held.now (g.O.Write.contents c.args.output.now)) c.loop-line.all_passed
    (g.I.Read.remaining c.loop-line.lines.input.now)
    middle c.in-Some.line.items has_lf (g.I.Read.remaining c.next.new.self.input.now) c.loop-line.invariant takes some in
    handed_fault_keeps_fact c.from_residual-in_err-reply.result _ _ c.from_residual-in_err-reply.ensures.1
    (inr (c.in-Some.line.items, stop.0, c.loop-line.all_passed, middle, stop.1, fault))

pub loop-line-preserved : goal.loop-line-preserved
loop-line-preserved g c =
    let (has_lf, takes, some, counted) = rw c.in-Some.is at c.in_ok-line.ensures.line in
    let answered = rw c.as_slice.ensures.value at c.in_ok-reply.ensures.ok in
    rw c.is_pass-all_passed.ensures
    (run_comes_past_line (AnswersLine g.S.BookStore.IsStored c.args.name.now c.args.moment) (g.I.Read.remaining c.args.input.now)
    (verify_run_shown g.S.BookStore.facts c.args.held.now (g.O.Write.contents c.args.output.now)) c.loop-line.all_passed
    (g.I.Read.remaining c.loop-line.lines.input.now)
    (verify_run_shown g.S.BookStore.facts c.loop-line.held (g.O.Write.contents c.loop-line.output))
    c.in-Some.line.items has_lf (g.I.Read.remaining c.next.new.self.input.now) _
    (verify_run_shown g.S.BookStore.facts c.answer_line.new.held
    (g.O.Write.contents c.answer_line.new.output)) c.loop-line.invariant takes some
    (c.in_ok-reply.reply, answered, refl))

pub returns-clause-ok : goal.returns-clause-ok
returns-clause-ok g c =
    let end = rw c.in_default.is at c.in_ok-line.ensures.end in
    run_at_end_worked_all (AnswersLine g.S.BookStore.IsStored c.args.name.now c.args.moment) (g.I.Read.remaining c.args.input.now)
    (verify_run_shown g.S.BookStore.facts c.args.held.now (g.O.Write.contents c.args.output.now)) c.loop-line.all_passed
    (g.I.Read.remaining c.loop-line.lines.input.now)
    (verify_run_shown g.S.BookStore.facts c.loop-line.held (g.O.Write.contents c.loop-line.output))
    c.loop-line.invariant end
