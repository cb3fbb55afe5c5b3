-- Texts that are cut at their commas.
use Rattle.std.proofs.Common.{◌≡◌, inl, inr, ℕ, ◌+◌, ◌-◌, ◌≤◌, List, [], ◌∷◌, ◌++◌, length, take, drop, refl, ◌∙◌, ap, arith, subst}
use Rattle.std.specs.Prelude.{position, count_by}
use Rattle.std.specs.List.{onto_first, zip}
use Rattle.std.proofs.lemmas.Bool.{cases_Bool}
use Rattle.std.proofs.lemmas.List.Splits.{length-slice_split}
use Rattle.std.proofs.lemmas.List.{take_rest}
use Rattle.std.specs.declared.option.Option.TheVariants.{None, Some}
use Rattle.std.specs.Str.{byte}
use Rattle.scram_text.specs.Class.{is_comma}
use Rattle.scram_text.specs.Name.{LacksComma}
use Rattle.scram_text.specs.Parts.{parts}
use Rattle.scram_text.specs.Faults.{Fits, fault, IsFirstMisfit}
use Rattle.scram_text.specs.declared.fault.TextFault.{TextFault}
use Rattle.scram_text.specs.declared.fault.TextWhy.{TextWhy}
use Rattle.scram_text.proofs.lemmas.CutAtByte.{head_and_rest_lack, text_is_cut}
use Rattle.scram_text.proofs.lemmas.FirstUnmet.{met_row_keeps_first}

-- a text has one part more than it has commas
pub parts_exceed_commas_by_one : (text : List ℕ) → length (parts text) ≡ count_by is_comma text + 1
parts_exceed_commas_by_one text = length-slice_split is_comma text

-- a text without commas is its one part
pub text_without_comma_is_one_part : (text : List ℕ) → LacksComma text → parts text ≡ text ∷ []
text_without_comma_is_one_part [] h = refl
text_without_comma_is_one_part (c ∷ text) h =
    let each = head_and_rest_lack (byte ",") c text h in rw (each.0, text_without_comma_is_one_part text each.1) refl

-- a character goes before the first part, even if more parts follow
onto_first-append : (c : ℕ) (pieces more : List (List ℕ)) → 1 ≤ length pieces → onto_first c (pieces ++ more) ≡ onto_first c pieces ++ more
onto_first-append c [] more h = absurd (omega (arith, h))
onto_first-append c (piece ∷ pieces) more h = refl

-- a comma separates the parts before it and those after it
pub parts-append : (front back : List ℕ) → parts (front ++ byte "," ∷ back) ≡ parts front ++ parts back
parts-append [] back = refl
parts-append (c ∷ front) back =
    let some : 1 ≤ length (parts front) = omega (arith, parts_exceed_commas_by_one front) in
    elim (cases_Bool (is_comma c)) [
      | inl hit ↦ rw (hit, parts-append front back) refl
      | inr miss ↦ rw (miss, parts-append front back) (onto_first-append c (parts front) (parts back) some)
    ]

-- the first part ends at the first comma
pub first_part_precedes_comma : (front back : List ℕ) → LacksComma front → parts (front ++ byte "," ∷ back) ≡ front ∷ parts back
first_part_precedes_comma front back h = rw (parts-append front back, text_without_comma_is_one_part front h) refl

-- if a text's first comma is at an index, its parts are what is before it, which has none, and the parts of what follows it
pub first_comma_cuts_parts : (text : List ℕ) (at : ℕ) → position is_comma text ≡ Some at
    → (parts text ≡ take at text ∷ parts (take (length text - (at + 1)) (drop (at + 1) text))) × LacksComma (take at text)
first_comma_cuts_parts text at found =
    let cuts = rw found at (text_is_cut (byte ",") text) in
    (rw (take_rest text (at + 1)) (ap parts cuts.1 ∙ first_part_precedes_comma (take at text) (drop (at + 1) text) cuts.0), cuts.0)

-- if a text's first comma is at an index, the text is what is before it, the comma and what follows it
pub first_comma_cuts_text : (text : List ℕ) (at : ℕ) → position is_comma text ≡ Some at
    → text ≡ take at text ++ byte "," ∷ drop (at + 1) text
first_comma_cuts_text text at found = let cuts = rw found at (text_is_cut (byte ",") text) in cuts.1

-- if a text has no comma, it is its one part
pub unfound_comma_leaves_one_part : (text : List ℕ) → position is_comma text ≡ None → (parts text ≡ text ∷ []) × LacksComma text
unfound_comma_leaves_one_part text none = let lacks = rw none at (text_is_cut (byte ",") text) in
    (text_without_comma_is_one_part text lacks, lacks)

-- if the first part does not fit its place, it is the first that does not
pub unfit_part_is_misfit : (most k : ℕ) (place : TextWhy) (places : List TextWhy) (part : List ℕ) (pieces : List (List ℕ))
    → (Fits most place part → ⊥) → IsFirstMisfit most (place ∷ places) k (part ∷ pieces) (fault k place)
unfit_part_is_misfit most k place places part pieces no_fit = record {
  part = part;
  first = record { before = []; after = zip places pieces; split = refl; met = tt; unmet = no_fit };
  index = omega arith;
}

-- if the first part fits, the first that does not fit is a later one
pub fitting_part_keeps_misfit : (most k : ℕ) (place : TextWhy) (places : List TextWhy) (part : List ℕ) (pieces : List (List ℕ))
    (f : TextFault)
    → Fits most place part → IsFirstMisfit most places (k + 1) pieces f → IsFirstMisfit most (place ∷ places) k (part ∷ pieces) f
fitting_part_keeps_misfit most k place places part pieces f fits later = record {
  part = later.part;
  first = met_row_keeps_first (λ row. Fits most row.0 row.1) (place, part) (zip places pieces) (f.why, later.part) fits later.first;
  index = omega (arith, later.index);
}

-- the first part that does not fit is the same if its index is written in another way
pub equal_index_keeps_misfit : (most j k : ℕ) (later : List TextWhy) (pieces : List (List ℕ)) (f : TextFault) → j ≡ k
    → IsFirstMisfit most later j pieces f → IsFirstMisfit most later k pieces f
equal_index_keeps_misfit most j k later pieces f same misfit = subst (λ (i : ℕ). IsFirstMisfit most later i pieces f) same misfit

-- the last part of a text follows its last comma
pub last_part_follows_comma : (text front back : List ℕ) → text ≡ front ++ byte "," ∷ back → LacksComma back
    → parts text ≡ parts front ++ back ∷ []
last_part_follows_comma text front back spelled lacks = rw spelled
    (rw (parts-append front back, text_without_comma_is_one_part back lacks) refl)
