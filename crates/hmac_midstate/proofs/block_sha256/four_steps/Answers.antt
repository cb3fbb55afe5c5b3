use Rattle.std.proofs.Common.{ap, ◌∙◌, arith}
use Rattle.sha2.specs.Sha256.{rounds}
use Rattle.hmac_midstate.proofs.block_sha256.four_steps.Goals as goal

pub returns : goal.returns
returns c = λ value held.
    let after = rounds value c.args.w.now in
    let s1 = c.step-v.ensures value held in
    let s2 = c.step-v-2.ensures value s1 in
    let s3 = c.step-v-3.ensures value (s2 ∙ ap after (omega arith)) in
    c.step.ensures value (s3 ∙ ap after (omega arith)) ∙ ap after (omega arith)
