use Rattle.std.proofs.Common.{◌≡◌, ◌-◌, ◌+◌, ◌++◌, arith, ◌∙◌, ap, sym}
use Rattle.otp_core.specs.Code.{last_digits}
use Rattle.otp_core.proofs.lemmas.Digits.{last_digits-more}
use Rattle.otp_core.proofs.code.digits_of.Goals as goal

pub loop-place-preserved : goal.loop-place-preserved
loop-place-preserved c =
    let left : c.args.count - c.loop-place.place ≡ (c.args.count - (c.loop-place.place + 1)) + 1 = omega arith in
    record {
      digits = rw (c.insert.ensures.items)
          (c.loop-place.invariant.digits ∙
          (ap (λ more. last_digits more c.loop-place.number
          ++ c.loop-place.digits.items) left ∙ last_digits-more _ c.loop-place.number c.loop-place.digits.items));
      length = omega arith;
    }

pub returns : goal.returns
unfolding last_digits
returns c =
    let none : c.args.count - c.loop-place.place ≡ 0 = omega arith in
    sym (c.loop-place.invariant.digits ∙ ap (λ more. last_digits more c.loop-place.number ++ c.loop-place.digits.items) none)
