use Rattle.std.proofs.Common.{◌≤◌, ◌-◌, ◌+◌}
use Rattle.std.specs.Prelude.{vec_len}
use Rattle.std.specs.Io.KnownBytes.{Consumes}
use Rattle.scram_text.specs.SplitLines.{LacksLf}
use Rattle.command_io.proofs.input.read_line.Given as goal

abbrev pub invariant-loop-line : goal.invariant-loop-line
invariant-loop-line g l =
    Consumes (g.I.Read.remaining l.fn.input) (g.I.Read.remaining l.input) l.line.items × LacksLf l.line.items × (vec_len l.line ≤ l.fn.most)

abbrev pub decreases-loop-line : goal.decreases-loop-line
decreases-loop-line g l = l.fn.most + 1 - vec_len l.line
