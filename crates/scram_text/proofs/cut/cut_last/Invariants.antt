use Rattle.std.proofs.Common.{◌≤◌, drop, length}
use Rattle.scram_text.specs.Name.{LacksComma}
use Rattle.scram_text.proofs.cut.cut_last.Given as goal

-- no comma comes after the place
abbrev pub invariant-loop-at : goal.invariant-loop-at
invariant-loop-at l = record {
  within : l.at ≤ length l.text;
  no_comma : LacksComma (drop l.at l.text);
}

abbrev pub decreases-loop-at : goal.decreases-loop-at
decreases-loop-at l = l.at
