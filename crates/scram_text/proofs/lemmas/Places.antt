-- Parts and their places, in each of the messages.
use Rattle.std.proofs.Common.{◌≡◌, inl, inr, ℕ, ◌+◌, ◌-◌, ◌≤◌, List, [], ◌∷◌, ◌++◌, length, replicate, refl, sym, ◌∙◌, ap, arith, subst}
use Rattle.std.specs.List.{AllByRecursion, zip}
use Rattle.std.proofs.lemmas.List.{append_assoc}
use Rattle.std.specs.Str.{byte}
use Rattle.scram_text.specs.Limits.{max_message_len}
use Rattle.scram_text.specs.Class.{is_printable, IsNonce, IsUtf8Text}
use Rattle.scram_text.specs.Name.{LacksComma}
use Rattle.scram_text.specs.Base64Field.{base64, IsField}
use Rattle.scram_text.specs.Parts.{parts, joined, AreExtensions, IsAttrVal, SpellsField}
use Rattle.scram_text.specs.Faults.{Fits, IsFirstMisfit, IsPartFault, IsFault, places}
use Rattle.scram_text.specs.declared.fault.TextFault.{TextFault}
use Rattle.scram_text.specs.declared.fault.TextWhy.{TextWhy}
use Rattle.scram_text.specs.declared.fault.TextWhy.TheVariants.{Extension}
use Rattle.scram_text.proofs.lemmas.Base64.{base64_decodes_back}
use Rattle.scram_text.proofs.lemmas.Parts.{text_without_comma_is_one_part, first_part_precedes_comma, fitting_part_keeps_misfit}
use Rattle.scram_text.proofs.lemmas.Parts.{equal_index_keeps_misfit}
use Rattle.scram_text.proofs.lemmas.AttrVals.{extension_lacks_comma}
use Rattle.scram_text.proofs.lemmas.FirstUnmet.{met_rows_have_no_first_unmet}
use Rattle.scram_text.proofs.lemmas.WithoutByte.{class_lacks_byte}

-- each part fits its place, for as many as there are of both
unfoldable pub AllFit : ℕ → List TextWhy → List (List ℕ) → Type 0
AllFit most later pieces = AllByRecursion (λ row. Fits most row.0 row.1) (zip later pieces)

-- all parts fit their places if the first part fits the first place and the others fit the others
pub AllFit-cons : (most : ℕ) (place : TextWhy) (later : List TextWhy) (part : List ℕ) (pieces : List (List ℕ))
    → Fits most place part → AllFit most later pieces → AllFit most (place ∷ later) (part ∷ pieces)
unfolding AllFit
AllFit-cons most place later part pieces fits fit = (fits, fit)

-- all parts fit if there are no places
pub AllFit-nil : (most : ℕ) (pieces : List (List ℕ)) → AllFit most [] pieces
unfolding AllFit
AllFit-nil most pieces = tt

-- if parts fit their places, the first fits the first place, and the others fit theirs
pub first_part_fits : (most : ℕ) (place : TextWhy) (later : List TextWhy) (part : List ℕ) (pieces : List (List ℕ))
    → AllFit most (place ∷ later) (part ∷ pieces) → Fits most place part × AllFit most later pieces
unfolding AllFit
first_part_fits most place later part pieces fit = fit

-- if extensions and parts after them fit their places, the extensions are ones, and the parts fit theirs
pub extensions_and_rest_fit : (most : ℕ) (later : List TextWhy) (extensions pieces : List (List ℕ))
    → AllFit most (replicate (length extensions) Extension ++ later) (extensions ++ pieces) → AreExtensions extensions
    × AllFit most later pieces
unfolding AllFit
extensions_and_rest_fit most later [] pieces fit = (tt, fit)
extensions_and_rest_fit most later (part ∷ extensions) pieces fit =
    let after = extensions_and_rest_fit most later extensions pieces fit.1 in ((fit.0, after.0), after.1)

-- parts that fit the places of extensions are extensions
pub fitting_are_extensions : (most : ℕ) (extensions : List (List ℕ)) → AllFit most (replicate (length extensions) Extension) extensions
    → AreExtensions extensions
unfolding AllFit
fitting_are_extensions most [] fit = tt
fitting_are_extensions most (part ∷ extensions) fit = (fit.0, fitting_are_extensions most extensions fit.1)

-- extensions fit the places of extensions
pub extensions_fit : (most : ℕ) (extensions : List (List ℕ)) → AreExtensions extensions
    → AllFit most (replicate (length extensions) Extension) extensions
unfolding AllFit
extensions_fit most [] are = tt
extensions_fit most (part ∷ extensions) are = (are.0, extensions_fit most extensions are.1)

-- if each part fits, none is the first that does not
fitting_parts_have_no_misfit : (most : ℕ) (later : List TextWhy) (k : ℕ) (pieces : List (List ℕ)) (f : TextFault)
    → AllFit most later pieces → IsFirstMisfit most later k pieces f → ⊥
unfolding AllFit
fitting_parts_have_no_misfit most later k pieces f fit misfit =
    met_rows_have_no_first_unmet (λ row. Fits most row.0 row.1) (zip later pieces) (f.why, misfit.part) fit misfit.first

-- two zipped lists with more after each begin with the pairs of the first lists
zip-append : {A B : Type 0} (xs more : List A) (ys others : List B)
    → (rest : List (A × B)) × (zip (xs ++ more) (ys ++ others) ≡ zip xs ys ++ rest)
zip-append [] more ys others = (zip more (ys ++ others), refl)
zip-append (x ∷ xs) more [] others = (zip (x ∷ xs ++ more) others, refl)
zip-append (x ∷ xs) more (y ∷ ys) others =
    let later = zip-append xs more ys others in (later.0, ap (λ rows. (x, y) ∷ rows) later.1)

-- the first part that does not fit is the same with more places and parts after them
pub later_parts_keep_misfit : (most : ℕ) (later more : List TextWhy) (k : ℕ) (pieces others : List (List ℕ)) (f : TextFault)
    → IsFirstMisfit most later k pieces f → IsFirstMisfit most (later ++ more) k (pieces ++ others) f
later_parts_keep_misfit most later more k pieces others f misfit =
    let (rest, rows) = zip-append later more pieces others in record {
      part = misfit.part;
      first = record {
        before = misfit.first.before;
        after = misfit.first.after ++ rest;
        split = rows ∙ rw misfit.first.split (append_assoc misfit.first.before _ rest);
        met = misfit.first.met;
        unmet = misfit.first.unmet;
      };
      index = misfit.index;
    }

-- the first part that does not fit is the same with extensions before it
pub extensions_keep_misfit : (most : ℕ) (later : List TextWhy) (k j : ℕ) (extensions pieces : List (List ℕ)) (f : TextFault)
    → j ≡ k + length extensions → AreExtensions extensions → IsFirstMisfit most later j pieces f
    → IsFirstMisfit most (replicate (length extensions) Extension ++ later) k (extensions ++ pieces) f
extensions_keep_misfit most later k j [] pieces f at are misfit =
    equal_index_keeps_misfit most j k later pieces f (omega (arith, at)) misfit
extensions_keep_misfit most later k j (part ∷ extensions) pieces f at are misfit =
    fitting_part_keeps_misfit most k Extension _ part _ f are.0 (extensions_keep_misfit most later (k + 1) j extensions pieces f
    (omega (arith, at))
    are.1 misfit)

-- parts that fit, with extensions before them, fit
pub extensions_keep_fit : (most : ℕ) (later : List TextWhy) (extensions pieces : List (List ℕ))
    → AreExtensions extensions → AllFit most later pieces
    → AllFit most (replicate (length extensions) Extension ++ later) (extensions ++ pieces)
unfolding AllFit
extensions_keep_fit most later [] pieces are fit = fit
extensions_keep_fit most later (part ∷ extensions) pieces are fit = (are.0, extensions_keep_fit most later extensions pieces are.1 fit)

-- the places of parts are the fixed ones, and one Extension for each part between them
pub places_unfold : (front back : List TextWhy) (n middle : ℕ) → n ≡ length front + length back + middle
    → places front back n ≡ front ++ (replicate middle Extension ++ back)
places_unfold front back n middle count =
    let same : n - (length front + length back) ≡ middle = omega (arith, count) in rw same refl

-- a fault of the parts is one of the text; the places before the extensions may depend on the parts
pub part_fault_is_fault : (most : ℕ) (front : List (List ℕ) → List TextWhy) (back : List TextWhy) (text : List ℕ) (pieces : List (List ℕ))
    (f : TextFault) → length text ≤ max_message_len → IsUtf8Text text → parts text ≡ pieces → IsPartFault most (front pieces) back pieces f
    → IsFault most (front (parts text)) back text f
part_fault_is_fault most front back text pieces f short utf8_text cut misfit =
    inr (short, utf8_text, subst (λ (ps : List (List ℕ)). IsPartFault most (front ps) back ps f) (sym cut) misfit)

-- a text whose parts fit has no fault
pub fitting_text_has_no_fault : (most : ℕ) (front : List (List ℕ) → List TextWhy) (back : List TextWhy) (text : List ℕ)
    (pieces : List (List ℕ))
    (f : TextFault) → length text ≤ max_message_len → IsUtf8Text text → parts text ≡ pieces
    → length (front pieces) + length back ≤ length pieces → AllFit most (places (front pieces) back (length pieces)) pieces
    → IsFault most (front (parts text)) back text f → ⊥
fitting_text_has_no_fault most front back text pieces f short utf8_text cut enough fit faulty = elim faulty [
  | inl whole ↦ elim whole [
    | inl long ↦ omega (arith, short, long.0)
    | inr no_text ↦ no_text.1 utf8_text
  ]
  | inr in_parts ↦
      let misfit = subst (λ (ps : List (List ℕ)). IsPartFault most (front ps) back ps f) cut in_parts.2 in elim misfit [
        | inl missing ↦ omega (arith, enough, missing.0)
        | inr first ↦ fitting_parts_have_no_misfit most (places (front pieces) back (length pieces)) 0 pieces f fit first.1
      ]
]

-- a nonce, which is of printable characters, has no comma
pub nonce_lacks_comma : (most : ℕ) (nonce : List ℕ) → IsNonce most nonce → LacksComma nonce
nonce_lacks_comma most nonce class = class_lacks_byte (byte ",") is_printable nonce refl class.each

-- extensions, each a letter, `=` and a value, have no comma in them
pub extensions_lack_comma : (extensions : List (List ℕ)) → AreExtensions extensions → AllByRecursion LacksComma extensions
extensions_lack_comma [] are = tt
extensions_lack_comma (part ∷ extensions) are = (extension_lacks_comma part are.0, extensions_lack_comma extensions are.1)

-- a part without commas and those after it, joined by commas, are cut into the same parts
pub parts-joined : (piece : List ℕ) (pieces : List (List ℕ)) → AllByRecursion LacksComma (piece ∷ pieces)
    → parts (joined (piece ∷ pieces)) ≡ piece ∷ pieces
parts-joined piece [] lack = text_without_comma_is_one_part piece lack.0
parts-joined piece (next ∷ pieces) lack =
    first_part_precedes_comma piece (joined (next ∷ pieces)) lack.0 ∙ ap (λ (ps : List (List ℕ)). piece ∷ ps)
    (parts-joined next pieces lack.1)

-- parts without commas, at least one, that were joined by commas are cut into the same parts
pub parts-joined_list : (pieces : List (List ℕ)) → 1 ≤ length pieces → AllByRecursion LacksComma pieces → parts (joined pieces) ≡ pieces
parts-joined_list [] some lack = absurd (omega (arith, some))
parts-joined_list (piece ∷ pieces) some lack = parts-joined piece pieces lack

-- a letter, `=` and the base64 of a field are a part that spells the field
pub field_part_spells_field : (letter most : ℕ) (part bytes : List ℕ) → part ≡ letter ∷ byte "=" ∷ base64 bytes → IsField most bytes
    → IsAttrVal letter (SpellsField most) part
field_part_spells_field letter most part bytes spelled field = (base64 bytes, spelled, (bytes, refl, field))

-- two fields with the same base64 are the same bytes
pub one_field_per_base64 : (most : ℕ) (one other : List ℕ) → IsField most one → IsField most other → base64 one ≡ base64 other → one ≡ other
one_field_per_base64 most one other is also same =
    let read = rw same at (base64_decodes_back one is.each) in let read_also = base64_decodes_back other also.each in cc (read, read_also)
