use Rattle.std.proofs.Common.{sym}
use Rattle.book_format.proofs.lemmas.HexTexts.{fewer_digits_are_refused, more_digits_are_refused}
use Rattle.book_format.proofs.read.field.bytes_within.Goals.{then-count-least-via-then-count-least}
use Rattle.book_format.proofs.read.field.bytes_within.Goals.{then-count-least-via-else-count-least+then-most-count}
use Rattle.book_format.proofs.read.field.bytes_within.Goals as goal

pub returns-then-count-least-clause-value : goal.returns-then-count-least-clause-value
returns-then-count-least-clause-value c =
    elim c.then-count-least.branch [
      | then-count-least-via-then-count-least w ↦ λ why. sym
          (fewer_digits_are_refused why c.args.least c.args.most c.args.text.now w.if-count-least.true)
      | then-count-least-via-else-count-least+then-most-count w ↦ λ why. sym
          (more_digits_are_refused why c.args.least c.args.most c.args.text.now w.if-most-count.true)
    ]
