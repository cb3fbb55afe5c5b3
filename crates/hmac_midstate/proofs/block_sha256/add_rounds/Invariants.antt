use Rattle.std.proofs.Common.{◌≡◌, ◌*◌}
use Rattle.sha2.specs.Sha256.{rounds}
use Rattle.hmac_midstate.proofs.block_sha256.add_rounds.Given as goal

abbrev pub invariant-turns : goal.invariant-turns
invariant-turns l = l.v ≡ rounds l.value l.w (8 * l.turn)
