use Rattle.std.proofs.Common.{◌≡◌, ◌↔◌, take}
use Rattle.std.specs.Prelude.{IsTrue}
use Rattle.c_library.proofs.prepared.are_same.Given as goal

-- the bytes are the same so far if, and only if, none has differed
abbrev pub invariant-loop-i : goal.invariant-loop-i
invariant-loop-i l = IsTrue l.same ↔ (take l.i l.one ≡ take l.i l.other)
