use Rattle.std.proofs.Common.{◌≡◌, ◌*◌, take}
use Rattle.sha1.specs.Sha1.{rounds}
use Rattle.hmac_midstate.proofs.block_sha1.add_rounds.Given as goal

abbrev pub invariant-choose : goal.invariant-choose
invariant-choose l = l.v ≡ rounds (take 5 l.value) l.w (5 * l.turn)

abbrev pub invariant-parity : goal.invariant-parity
invariant-parity l = l.v ≡ rounds (take 5 l.value) l.w (5 * l.turn)

abbrev pub invariant-majority : goal.invariant-majority
invariant-majority l = l.v ≡ rounds (take 5 l.value) l.w (5 * l.turn)

abbrev pub invariant-last : goal.invariant-last
invariant-last l = l.v ≡ rounds (take 5 l.value) l.w (5 * l.turn)
