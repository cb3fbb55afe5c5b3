-- Parts that are a letter, `=` and a value: as the code tests them, and as the grammar defines them.
use Rattle.std.proofs.Common.{◌≡◌, ◌↔◌, inl, inr, ℕ, true, not, List, [], ◌∷◌, length, refl, sym, ap, subst, arith}
use Rattle.std.specs.Prelude.{IsTrue, ◌==◌}
use Rattle.std.specs.Cmp.Derive.{both_true}
use Rattle.std.specs.List.{list_all}
use Rattle.std.proofs.lemmas.Bool.{cases_Bool, eqb-true, both_ways, and_parts}
use Rattle.std.specs.Str.{byte}
use Rattle.scram_text.specs.Class.{is_letter, is_comma}
use Rattle.scram_text.specs.Name.{LacksComma}
use Rattle.scram_text.specs.Parts.{IsExtension}
use Rattle.scram_text.specs.inner.Pieces.{is_attribute}
use Rattle.scram_text.proofs.lemmas.ListEnds.{same_head_and_tail}

-- a part without a comma that passes the code's test is an extension
attribute_is_extension : (part : List ℕ) → LacksComma part → IsTrue (is_attribute part) → IsExtension part
attribute_is_extension [] lacks h = absurd (cc h)
attribute_is_extension (a ∷ []) lacks h = absurd (cc h)
attribute_is_extension (a ∷ b ∷ []) lacks h = absurd (cc h)
attribute_is_extension (a ∷ b ∷ c ∷ value) lacks h =
    let (letter, equals) = and_parts (is_letter a) (b == byte "=") h in
    let (first, others) = and_parts (not (is_comma a)) (list_all (λ x. not (is_comma x)) (b ∷ c ∷ value)) lacks in
    let (second, rest) = and_parts (not (is_comma b)) (list_all (λ x. not (is_comma x)) (c ∷ value)) others in
    let spelled = ap (λ (n : ℕ). a ∷ n ∷ c ∷ value) (eqb-true b (byte "=") equals) in
    (a, letter, (c ∷ value, spelled, record { at_least = omega arith; no_comma = rest }))

-- an extension passes the code's test
extension_is_attribute : (part : List ℕ) → IsExtension part → IsTrue (is_attribute part)
extension_is_attribute [] (letter, is_one, (value, spelled, is)) = absurd (cc spelled)
extension_is_attribute (a ∷ []) (letter, is_one, (value, spelled, is)) =
    let none = (same_head_and_tail a letter [] (byte "=" ∷ value) spelled).1 in absurd (cc none)
extension_is_attribute (a ∷ b ∷ []) (letter, is_one, (value, spelled, is)) =
    let second = same_head_and_tail b (byte "=") [] value (same_head_and_tail a letter (b ∷ []) (byte "=" ∷ value) spelled).1 in
    let none : 0 ≡ length value = ap length second.1 in
    absurd (omega (arith, none, is.at_least))
extension_is_attribute (a ∷ b ∷ c ∷ rest) (letter, is_one, (value, spelled, is)) =
    let first = same_head_and_tail a letter (b ∷ c ∷ rest) (byte "=" ∷ value) spelled in
    let second = same_head_and_tail b (byte "=") (c ∷ rest) value first.1 in
    both_true (subst (λ (n : ℕ). is_letter n ≡ true) (sym first.0) is_one)
    (subst (λ (n : ℕ). (n == byte "=") ≡ true) (sym second.0) refl)

-- for a part without a comma, the code's test passes if and only if the part is an extension
pub attribute_iff_extension : (part : List ℕ) → LacksComma part → IsTrue (is_attribute part) ↔ IsExtension part
attribute_iff_extension part lacks = (attribute_is_extension part lacks, extension_is_attribute part)

-- an extension has no comma
pub extension_lacks_comma : (part : List ℕ) → IsExtension part → LacksComma part
extension_lacks_comma part (letter, is_one, (value, spelled, is)) = elim (cases_Bool (is_comma letter)) [
  | inl hit ↦ absurd (both_ways (is_letter (byte ",")) refl (rw (eqb-true letter (byte ",") hit) at is_one))
  | inr miss ↦ subst LacksComma (sym spelled) (rw miss is.no_comma)
]
