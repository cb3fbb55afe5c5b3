use Rattle.std.proofs.Common.{slice_index, refl, sym, ◌∙◌, arith}
use Rattle.sha1.proofs.Schedule.{round_constant_last, round_fn_last}
use Rattle.hmac_midstate.proofs.lemmas.Rounds.{step_1}
use Rattle.hmac_midstate.proofs.block_sha1.last_round.Goals as goal

pub returns : goal.returns
returns c = λ value held.
    step_1 value c.args.w.now c.args.v _ c.args.t _ _ _ held
    (c.parity.ensures
    ∙ sym (round_fn_last c.args.t (slice_index c.args.v 1) (slice_index c.args.v 2) (slice_index c.args.v 3) (omega arith)))
    (sym (round_constant_last c.args.t (omega arith))) refl c.round.ensures
