use Rattle.std.proofs.Common.{refl}
use Rattle.scram_text.specs.Messages.{server_final_text}
use Rattle.c_library.proofs.text.report.Goals as goal

pub returns-in-Accepted : goal.returns-in-Accepted
unfolding server_final_text
returns-in-Accepted c = rw (c.add_base64.ensures.value, c.add.ensures.value, c.new-text.ensures, c.as_slice.ensures.value, c.in-Accepted.is) refl

pub returns-in-Refused : goal.returns-in-Refused
unfolding server_final_text
returns-in-Refused c =
    rw (
      c.add-in-Refused-2.ensures.value,
      c.add-in-Refused.ensures.value,
      c.new-text.ensures,
      c.as_bytes.ensures.value,
      c.error_value.ensures,
      c.in-Refused.is,
    ) refl
