use Rattle.std.proofs.Common.{◌≡◌, take}
use Rattle.mac_core.specs.Hmac.{xor_each}
use Rattle.hmac_midstate.proofs.prepared.xor_each.Given as goal

-- the bytes so far are the first ones of the block, each XORed with the byte
abbrev pub invariant-loop-x : goal.invariant-loop-x
invariant-loop-x l = l.all.items ≡ xor_each l.byte (take l.x-index l.x-items)
