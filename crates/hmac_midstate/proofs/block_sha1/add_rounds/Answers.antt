use Rattle.std.proofs.Common.{◌≡◌, take, ap, refl, ◌∙◌, arith}
use Rattle.sha1.specs.Sha1.{rounds}
use Rattle.hmac_midstate.proofs.lemmas.Rounds.{first_five}
use Rattle.hmac_midstate.proofs.block_sha1.add_rounds.Goals as goal

pub choose-init : goal.choose-init
unfolding rounds
choose-init c = first_five c.args.value.now (omega arith)

pub choose-preserved : goal.choose-preserved
choose-preserved c =
    let value = take 5 c.args.value.now in
    c.choose_five-v.ensures value c.choose.invariant ∙ ap (rounds value c.args.w.now) (omega arith)

pub parity-init : goal.parity-init
parity-init c = c.choose.invariant ∙ ap (rounds (take 5 c.args.value.now) c.args.w.now) (omega arith)

pub parity-preserved : goal.parity-preserved
parity-preserved c =
    let value = take 5 c.args.value.now in
    c.parity_five-v.ensures value c.parity.invariant ∙ ap (rounds value c.args.w.now) (omega arith)

pub majority-init : goal.majority-init
majority-init c = c.parity.invariant ∙ ap (rounds (take 5 c.args.value.now) c.args.w.now) (omega arith)

pub majority-preserved : goal.majority-preserved
majority-preserved c =
    let value = take 5 c.args.value.now in
    c.majority_five-v.ensures value c.majority.invariant ∙ ap (rounds value c.args.w.now) (omega arith)

pub last-init : goal.last-init
last-init c = c.majority.invariant ∙ ap (rounds (take 5 c.args.value.now) c.args.w.now) (omega arith)

pub last-preserved : goal.last-preserved
last-preserved c =
    let value = take 5 c.args.value.now in
    c.last_five-v.ensures value c.last.invariant ∙ ap (rounds value c.args.w.now) (omega arith)

pub returns : goal.returns
returns c =
    let value = take 5 c.args.value.now in
    let run : c.last.v ≡ rounds value c.args.w.now 80 = c.last.invariant ∙ ap (rounds value c.args.w.now) (omega arith) in
    rw (← run, ← first_five c.args.value.now (omega arith)) refl
