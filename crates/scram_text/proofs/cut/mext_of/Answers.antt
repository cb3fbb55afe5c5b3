use Rattle.std.proofs.Common.{◌≡◌, List, ℕ, refl, sym, ◌∙◌, subst, true}
use Rattle.std.specs.declared.option.Option.TheVariants.{Some}
use Rattle.std.specs.Str.{byte}
use Rattle.scram_text.specs.Parts.{parts, is_named}
use Rattle.scram_text.specs.Faults.{first_of, fault}
use Rattle.scram_text.specs.inner.Pieces.{IsMextMisfit}
use Rattle.scram_text.specs.declared.fault.TextWhy.TheVariants.{Mandatory}
use Rattle.scram_text.proofs.lemmas.MextAndRest.{unfit_mext_is_misfit}
use Rattle.scram_text.proofs.cut.mext_of.Goals as goal

pub returns-in_default-value_of-clause-fault : goal.returns-in_default-value_of-clause-fault
returns-in_default-value_of-clause-fault c =
    let headed : is_named (byte "m") (first_of (parts c.args.text.now)) ≡ true = sym c.begins_with_mext.ensures ∙
    c.if-not-begins_with_mext.false in
    subst (λ (ps : List (List ℕ)). IsMextMisfit c.args.index ps (fault c.args.index Mandatory)) (sym c.cut.ensures.parts)
    (unfit_mext_is_misfit c.args.index c.cut.result.0.now _ (rw c.cut.ensures.parts at headed) c.in_default-value_of.ensures.none)

pub returns-clause-found : goal.returns-clause-found
returns-clause-found c =
    let headed : is_named (byte "m") (first_of (parts c.args.text.now)) ≡ true = sym c.begins_with_mext.ensures ∙
    c.if-not-begins_with_mext.false in (
      Some c.in-Some-value_of.field-0.now,
      record {
        cut = rw (c.in-Some.is, c.in-Some-value_of.ensures.spelled) at c.cut.ensures.parts;
        value = c.in-Some-value_of.ensures.class;
        headed = headed;
      },
      refl,
      refl,
    )
