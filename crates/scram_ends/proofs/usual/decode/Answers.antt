use Rattle.std.proofs.Common.{arith}
use Rattle.scram_text.specs.Limits.{max_tag_len}
use Rattle.scram_text.proofs.lemmas.Base64.{decoded_bytes_are_field}
use Rattle.scram_ends.proofs.usual.decode.Goals as goal

pub returns-clause-field : goal.returns-clause-field
returns-clause-field c =
    (decoded_bytes_are_field max_tag_len c.in-Ok.size c.args.text.now c.decode_slice_unchecked.new.output
    (λ i. omega (arith, c.type_inv.text i)) (λ i. omega (arith, c.type_inv.buffer i)) c.in-Ok.ensures.ok.0 (omega arith)
    (omega arith) (omega (arith, c.in-Ok.ensures.ok.2))).0

pub returns-clause-spelled : goal.returns-clause-spelled
returns-clause-spelled c =
    (decoded_bytes_are_field max_tag_len c.in-Ok.size c.args.text.now c.decode_slice_unchecked.new.output
    (λ i. omega (arith, c.type_inv.text i)) (λ i. omega (arith, c.type_inv.buffer i)) c.in-Ok.ensures.ok.0 (omega arith)
    (omega arith) (omega (arith, c.in-Ok.ensures.ok.2))).1
