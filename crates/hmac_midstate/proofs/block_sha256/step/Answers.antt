use Rattle.std.proofs.Common.{refl}
use Rattle.hmac_midstate.proofs.lemmas.Rounds.{step_256}
use Rattle.hmac_midstate.proofs.block_sha256.step.Goals as goal

pub returns : goal.returns
returns c = λ value held. step_256 value c.args.w.now c.args.v _ c.args.t _ _ held refl refl c.round.ensures
