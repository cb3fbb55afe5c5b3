-- Texts joined by commas, and extensions, which follow a comma if there are any.
use Rattle.std.proofs.Common.{◌≡◌, ℕ, ◌≤◌, List, [], ◌∷◌, ◌++◌, length, refl, sym, ◌∙◌, ap, arith, append-nil, append_assoc}
use Rattle.std.proofs.lemmas.List.Splits.{join_with_byte-slice_split}
use Rattle.std.specs.Str.{byte}
use Rattle.scram_text.specs.Class.{IsUtf8Text}
use Rattle.scram_text.specs.Parts.{parts, joined}
use Rattle.scram_text.specs.Draft.{after_comma}
use Rattle.scram_text.specs.Written.{extension_parts}
use Rattle.scram_text.proofs.lemmas.Parts.{parts_exceed_commas_by_one}
use Rattle.scram_text.proofs.lemmas.Texts.{IsUtf8Text-append, plain_is_text}

-- texts joined by commas are the first, a comma and the others joined
pub joined-cons : (piece : List ℕ) (pieces : List (List ℕ)) → 1 ≤ length pieces
    → joined (piece ∷ pieces) ≡ piece ++ byte "," ∷ joined pieces
joined-cons piece [] some = absurd (omega (arith, some))
joined-cons piece (next ∷ pieces) some = refl

-- parts with a last one, joined by commas, are those before it joined, a comma and the last
pub joined-push : (piece : List ℕ) (front : List (List ℕ)) (last : List ℕ)
    → joined (piece ∷ (front ++ last ∷ [])) ≡ joined (piece ∷ front) ++ byte "," ∷ last
joined-push piece [] last = refl
joined-push piece (next ∷ front) last =
    ap (λ (t : List ℕ). piece ++ byte "," ∷ t) (joined-push next front last) ∙ sym (append_assoc piece (byte "," ∷ joined (next ∷ front))
    (byte "," ∷ last))

-- a comma and the extensions follow, if there are any
pub extensions_join_after_comma : (piece extensions : List ℕ)
    → joined (piece ∷ extension_parts extensions) ≡ piece ++ after_comma extensions
extensions_join_after_comma piece [] = sym (append-nil piece)
extensions_join_after_comma piece (c ∷ text) =
    joined-cons piece (parts (c ∷ text)) (omega (arith, parts_exceed_commas_by_one (c ∷ text)))
    ∙ ap (λ (t : List ℕ). piece ++ byte "," ∷ t) (join_with_byte-slice_split (byte ",") (c ∷ text))

-- a comma and extensions that are a text are a text
pub after_comma_is_text : (extensions : List ℕ) → IsUtf8Text extensions → IsUtf8Text (after_comma extensions)
after_comma_is_text [] is = is
after_comma_is_text (c ∷ text) is = IsUtf8Text-append (byte "," ∷ []) (c ∷ text) (plain_is_text (byte "," ∷ []) refl) is
