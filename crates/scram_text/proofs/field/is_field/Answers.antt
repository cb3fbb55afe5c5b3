use Rattle.std.proofs.Common.{length, arith, sym, ◌∙◌}
use Rattle.std.proofs.lemmas.Bool.{eqb-false, leb-true, le-leb}
use Rattle.base64.specs.GeneralPurpose.{IsBytes}
use Rattle.scram_text.proofs.lemmas.Base64.{bytes_are_field}
use Rattle.scram_text.proofs.field.is_field.Goals as goal

pub returns-then-not-is_empty : goal.returns-then-not-is_empty
returns-then-not-is_empty c =
    let fits : IsBytes c.args.bytes.now = λ i. omega (arith, c.type_inv.bytes i) in
    let some = eqb-false (length c.args.bytes.now) 0 (sym c.is_empty.ensures ∙ c.if-not-is_empty.true) in (
      λ within. bytes_are_field c.args.most c.args.bytes.now fits (omega (arith, some))
          (leb-true (length c.args.bytes.now) c.args.most within),
      λ field. le-leb (length c.args.bytes.now) c.args.most field.at_most,
    )
