use Rattle.std.proofs.Common.{◌≡◌, ◌*◌, refl, ap, ◌∙◌, arith}
use Rattle.sha2.specs.Sha256.{add_state, rounds}
use Rattle.hmac_midstate.proofs.block_sha256.add_rounds.Goals as goal

pub turns-init : goal.turns-init
unfolding rounds
turns-init c = refl

pub turns-preserved : goal.turns-preserved
turns-preserved c =
    let value = c.args.value.now in
    let after = rounds value c.args.w.now in
    let s1 = c.four_steps-v.ensures value c.turns.invariant in
    c.four_steps-v-in-turns.ensures value s1 ∙ ap after (omega arith)

pub returns : goal.returns
returns c =
    let done : 8 * c.turns.turn ≡ 64 = omega arith in
    ap (add_state c.args.value.now) (rw done at c.turns.invariant)
