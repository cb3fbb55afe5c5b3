use Rattle.std.proofs.Common.{◌≡◌, ◌-◌, ◌++◌, length}
use Rattle.otp_core.specs.Code.{last_digits}
use Rattle.otp_core.proofs.code.digits_of.Given as goal

-- the digits so far come after those that are left
abbrev pub invariant-loop-place : goal.invariant-loop-place
invariant-loop-place l = record {
  digits : last_digits l.count l.fn.number ≡ last_digits (l.count - l.place) l.number ++ l.digits.items;
  length : length l.digits.items ≡ l.place;
}
