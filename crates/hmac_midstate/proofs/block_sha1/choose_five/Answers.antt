use Rattle.std.proofs.Common.{ap, ◌∙◌, arith}
use Rattle.sha1.specs.Sha1.{rounds}
use Rattle.hmac_midstate.proofs.block_sha1.choose_five.Goals as goal

pub returns : goal.returns
returns c = λ value held.
    let after = rounds value c.args.w.now in
    let s1 = c.choose_round-v.ensures value held in
    let s2 = c.choose_round-v-2.ensures value s1 in
    let s3 = c.choose_round-v-3.ensures value (s2 ∙ ap after (omega arith)) in
    let s4 = c.choose_round-v-4.ensures value (s3 ∙ ap after (omega arith)) in
    c.choose_round.ensures value (s4 ∙ ap after (omega arith)) ∙ ap after (omega arith)
