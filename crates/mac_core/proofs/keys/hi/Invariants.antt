use Rattle.std.proofs.Common.{◌≡◌, length}
use Rattle.mac_core.specs.Hmac.{hmac}
use Rattle.mac_core.specs.Keys.{iterated, xor_of_iterated}
use Rattle.mac_core.proofs.keys.hi.Given as goal

-- `round` rounds are done: `last` is U of that number, and `sum` is the XOR up to it
abbrev pub invariant-loop-round : goal.invariant-loop-round
invariant-loop-round g l =
    let mac = hmac g.H.HashFn.digest_of g.H.HashFn.BLOCK l.fn.password in record {
      last : l.last.items ≡ iterated mac l.salt l.round;
      sum : l.sum.items ≡ xor_of_iterated mac l.salt l.round;
      last_len : length l.last.items ≡ g.H.HashFn.LEN;
      sum_len : length l.sum.items ≡ g.H.HashFn.LEN;
    }
