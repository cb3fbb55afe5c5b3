use Rattle.std.proofs.Common.{slice_index, refl, sym, ◌∙◌, arith}
use Rattle.sha1.proofs.Schedule.{round_constant_majority, round_fn_majority}
use Rattle.hmac_midstate.proofs.lemmas.Rounds.{step_1}
use Rattle.hmac_midstate.proofs.block_sha1.majority_round.Goals as goal

pub returns : goal.returns
returns c = λ value held.
    step_1 value c.args.w.now c.args.v _ c.args.t _ _ _ held
    (c.maj.ensures
    ∙ sym (round_fn_majority c.args.t (slice_index c.args.v 1) (slice_index c.args.v 2) (slice_index c.args.v 3)
    (omega arith) (omega arith)))
    (sym (round_constant_majority c.args.t (omega arith) (omega arith))) refl c.round.ensures
