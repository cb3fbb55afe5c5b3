use Rattle.std.proofs.Common.{◌≡◌, ◌-◌, ◌++◌, length, replicate}
use Rattle.hmac_midstate.proofs.prepared.zero_filled.Given as goal

-- so far there are the bytes and one zero for each turn of the loop
abbrev pub invariant-loop-i : goal.invariant-loop-i
invariant-loop-i l = l.filled.items ≡ l.bytes ++ replicate (l.i - length l.bytes) 0
