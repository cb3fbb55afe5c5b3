use Rattle.std.proofs.Common.{◌≡◌, ◌↔◌, take}
use Rattle.std.specs.Prelude.{IsTrue}
use Rattle.scram_ends.proofs.bytes.are_same.Given as goal

abbrev pub invariant-loop-i : goal.invariant-loop-i
invariant-loop-i l = IsTrue l.same ↔ (take l.i l.one ≡ take l.i l.other)
