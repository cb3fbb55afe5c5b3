use Rattle.std.specs.Str.{IsUtf8}
use Rattle.otp_core.proofs.lemmas.Digits.{IsUtf8-from_digits}
use Rattle.otp_core.proofs.code.Code.text.Goals as goal

pub unreachable-requires : goal.unreachable-requires
unreachable-requires c =
    let text : IsUtf8 c.as_slice.result.now = rw (c.as_slice.ensures.value) (IsUtf8-from_digits _ c.self.invariant.digits) in
    c.in_default.ensures.cases.0 text
