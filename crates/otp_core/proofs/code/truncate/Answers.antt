use Rattle.std.proofs.Common.{◌≤◌, ◌^◌, arith, lit≤}
use Rattle.std.proofs.Math.Nat.{one-le-pow}
use Rattle.otp_core.specs.Ranges.{IsDigitCount}
use Rattle.otp_core.proofs.lemmas.Digits.{IsCodeText-last_digits}
use Rattle.otp_core.proofs.code.truncate.Goals as goal

pub nonzero_rem-number : goal.nonzero_rem-number
nonzero_rem-number c =
    let least : 1 ≤ 10 ^ c.from.result = one-le-pow c.from.result 10 (lit≤ tt) in omega arith

pub invariant_of-result : goal.invariant_of-result
invariant_of-result c =
    let range : IsDigitCount c.from-2.result = rw (c.from-2.ensures, c.count-count.ensures.value) (c.count-count.ensures.range) in
    rw (c.digits_of.ensures) (IsCodeText-last_digits _ _ range)
