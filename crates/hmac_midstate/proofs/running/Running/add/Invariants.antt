use Rattle.std.proofs.Common.{◌≡◌, ℕ, List, ◌++◌, ◌+◌, ◌*◌, ◌%◌, ◌^◌, ◌≤◌, length, take}
use Rattle.hmac_midstate.specs.Midstate.{IsAbsorbed, hash_value}
use Rattle.hmac_midstate.specs.Running.{OneReads, OtherReads}
use Rattle.hmac_midstate.proofs.running.Running.add.Given as goal

abbrev pub invariant-blocks-2 : goal.invariant-blocks-2
invariant-blocks-2 l = record {
  total : l.self.total ≡ (l.fn.self.total + length l.piece) % 2 ^ 64;
  within : l.room + 64 * l.i ≤ length l.piece;
  one : (m : List ℕ) → OneReads l.mechanism l.fn.self m
      → IsAbsorbed l.mechanism (hash_value l.mechanism l.self.one) l.self.buffer (m ++ take (l.room + 64 * l.i) l.piece)
      × ((length m + l.room) % 64 ≡ 0);
  other : (m : List ℕ) → OtherReads l.mechanism l.fn.self m
      → IsAbsorbed l.mechanism (hash_value l.mechanism l.self.other) l.self.buffer (m ++ take (l.room + 64 * l.i) l.piece)
      × ((length m + l.room) % 64 ≡ 0);
}
