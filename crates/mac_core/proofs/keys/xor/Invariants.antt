use Rattle.std.proofs.Common.{◌≡◌, ◌++◌, drop, length}
use Rattle.mac_core.specs.Keys.{xor_bytes}
use Rattle.mac_core.proofs.keys.xor.Given as goal

-- the bytes so far and the XOR of what is left are the whole XOR, and there are as many bytes as the loop has made turns
abbrev pub invariant-loop-i : goal.invariant-loop-i
invariant-loop-i l = record {
  left : l.bytes.items ++ xor_bytes (drop l.i l.a) (drop l.i l.b) ≡ xor_bytes l.a l.b;
  count : length l.bytes.items ≡ l.i;
}
