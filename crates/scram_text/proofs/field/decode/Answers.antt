use Rattle.std.proofs.Common.{length, arith, length-take}
use Rattle.scram_text.proofs.lemmas.Base64.{decoded_bytes_are_field, spelled_field_is_decoded, undecoded_spells_no_field}
use Rattle.scram_text.proofs.field.decode.Goals as goal

pub returns-in-Ok-eq0-clause-none : goal.returns-in-Ok-eq0-clause-none
returns-in-Ok-eq0-clause-none c = λ spells.
    let field = (spelled_field_is_decoded _ c.args.text.now _ c.in-Ok-eq0.ensures.ok.0 spells).1 in
    omega (arith, field.at_least, length-take c.in-Ok-eq0.field-0 c.decode_slice_unchecked.new.output)

pub returns-in-Ok-clause-field : goal.returns-in-Ok-clause-field
returns-in-Ok-clause-field c =
    (decoded_bytes_are_field (length c.args.buffer.now) c.in-Ok.size c.args.text.now c.decode_slice_unchecked.new.output
    (λ i. omega (arith, c.type_inv.text i)) (λ i. omega (arith, c.type_inv.buffer i)) c.in-Ok.ensures.ok.0 (omega arith)
    (omega (arith, c.in-Ok.ensures.ok.2)) (omega (arith, c.in-Ok.ensures.ok.2))).0

pub returns-in-Ok-clause-text : goal.returns-in-Ok-clause-text
returns-in-Ok-clause-text c =
    (decoded_bytes_are_field (length c.args.buffer.now) c.in-Ok.size c.args.text.now c.decode_slice_unchecked.new.output
    (λ i. omega (arith, c.type_inv.text i)) (λ i. omega (arith, c.type_inv.buffer i)) c.in-Ok.ensures.ok.0 (omega arith)
    (omega (arith, c.in-Ok.ensures.ok.2)) (omega (arith, c.in-Ok.ensures.ok.2))).1

pub returns-in-Err-clause-none : goal.returns-in-Err-clause-none
returns-in-Err-clause-none c = undecoded_spells_no_field _ c.args.text.now c.in-Err.field-0 c.in-Err.ensures.err
