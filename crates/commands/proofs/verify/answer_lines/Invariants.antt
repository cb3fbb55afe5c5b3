use Rattle.command_io.proofs.lemmas.LinesInTurn.{HasCome}
use Rattle.commands.specs.Verify.{verify_run_shown, AnswersLine}
use Rattle.commands.proofs.verify.answer_lines.Given as goal

abbrev pub invariant-loop-line : goal.invariant-loop-line
invariant-loop-line g l =
    HasCome (AnswersLine g.S.BookStore.IsStored l.fn.name l.fn.moment) (g.I.Read.remaining l.fn.input)
    (verify_run_shown g.S.BookStore.facts l.fn.held (g.O.Write.contents l.fn.output))
    l.all_passed (g.I.Read.remaining l.lines.input.now) (verify_run_shown g.S.BookStore.facts l.held (g.O.Write.contents l.output))

abbrev pub decreases-loop-line : goal.decreases-loop-line
decreases-loop-line g l = l.lines.left
