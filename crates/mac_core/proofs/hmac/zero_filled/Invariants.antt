use Rattle.std.proofs.Common.{◌≡◌, ◌-◌, ◌++◌, length, replicate}
use Rattle.mac_core.proofs.hmac.zero_filled.Given as goal

-- so far there are the key and one zero for each turn of the loop
abbrev pub invariant-loop-i : goal.invariant-loop-i
invariant-loop-i l = l.filled.items ≡ l.key ++ replicate (l.i - length l.key) 0
