-- What is true of the extensions that are left, read from the left, is true of all.
use Rattle.std.proofs.Common.{◌≡◌, ℕ, ◌+◌, ◌||◌, Bool, List, ◌∷◌, length, ◌∙◌, arith}
use Rattle.std.proofs.Math.Bool.{or_assoc}
use Rattle.std.specs.Str.{byte}
use Rattle.scram_text.specs.Parts.{IsExtension, AreExtensions, have_mandatory, is_named}
use Rattle.scram_text.specs.Faults.{fault}
use Rattle.scram_text.specs.inner.Pieces.{IsExtensionMisfit}
use Rattle.scram_text.specs.declared.fault.TextFault.{TextFault}
use Rattle.scram_text.specs.declared.fault.TextWhy.TheVariants.{Extension}
use Rattle.scram_text.proofs.lemmas.Parts.{unfit_part_is_misfit, fitting_part_keeps_misfit}

-- what is true of the extensions from this index on is true of all of them
pub record RestShowsAll (first : ℕ) (all : List (List ℕ)) (index : ℕ) (mandatory : Bool) (left : List (List ℕ)) : Type 0 where
  -- if all that are left are extensions, all are
  pub extensions : AreExtensions left → AreExtensions all
  -- one of all is mandatory if and only if `mandatory` says so or one that is left is
  pub is_mandatory : (mandatory || have_mandatory left) ≡ have_mandatory all
  -- if one that is left is not an extension, the first such one is the first of all
  pub misfit : (f : TextFault) → IsExtensionMisfit index left f → IsExtensionMisfit first all f
  -- those that are left end where all end
  pub room : index + length left ≡ first + length all

-- what is true from an extension on is true from the next one on
pub RestShowsAll-next : (first : ℕ) (all : List (List ℕ)) (index : ℕ) (mandatory : Bool) (part : List ℕ) (left : List (List ℕ))
    → RestShowsAll first all index mandatory (part ∷ left) → IsExtension part
    → RestShowsAll first all (index + 1) (mandatory || is_named (byte "m") part) left
RestShowsAll-next first all index mandatory part left leads fits = record {
  extensions = λ more. leads.extensions (fits, more);
  is_mandatory = or_assoc mandatory (is_named (byte "m") part) (have_mandatory left) ∙ leads.is_mandatory;
  misfit = λ f more. leads.misfit f (λ most. fitting_part_keeps_misfit most index Extension _ part left f fits (more most));
  room = omega (arith, leads.room);
}

-- if the part at the index is not an extension, it is the first of all that is none
pub unfit_extension_is_misfit : (first : ℕ) (all : List (List ℕ)) (index : ℕ) (mandatory : Bool) (part : List ℕ) (left : List (List ℕ))
    → RestShowsAll first all index mandatory (part ∷ left) → (IsExtension part → ⊥) → IsExtensionMisfit first all (fault index Extension)
unfit_extension_is_misfit first all index mandatory part left leads no_fit =
    leads.misfit (fault index Extension) (λ most. unfit_part_is_misfit most index Extension _ part left no_fit)
