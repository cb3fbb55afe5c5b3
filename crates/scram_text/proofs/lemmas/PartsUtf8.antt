-- The parts of a text of UTF-8 are UTF-8.
use Rattle.std.proofs.Common.{◌≡◌, ℕ, zero, suc, ◌+◌, ◌≤◌, ◌<◌, List, ◌∷◌, ◌++◌, length, take, drop, get_or, refl, sym, ◌∙◌, ap, arith, subst}
use Rattle.std.proofs.Common.{length-append}
use Rattle.std.specs.Prelude.{position}
use Rattle.std.specs.List.{AllByRecursion}
use Rattle.std.specs.Str.{byte, IsUtf8}
use Rattle.std.specs.declared.option.Option.{Option}
use Rattle.std.specs.declared.option.Option.TheVariants.{None, Some}
use Rattle.std.proofs.Math.Seq.{take-append_seam, drop-append-add, get_or-append_seam}
use Rattle.std.proofs.lemmas.Str.{IsUtf8-take, IsUtf8-drop, IsCharBoundary-before_ascii, IsCharBoundary-after_ascii}
use Rattle.scram_text.specs.Class.{is_comma}
use Rattle.scram_text.specs.Laws.{PartsAreUtf8}
use Rattle.scram_text.specs.Parts.{parts}
use Rattle.scram_text.proofs.lemmas.Parts.{unfound_comma_leaves_one_part, first_comma_cuts_text, first_comma_cuts_parts, first_part_precedes_comma}

-- the texts before and after a comma in UTF-8 are UTF-8
pieces_are_utf8 : (front back : List ℕ) → IsUtf8 (front ++ byte "," ∷ back) → IsUtf8 front × IsUtf8 back
pieces_are_utf8 front back utf8 =
    let within : length front < length (front ++ byte "," ∷ back) = omega (arith, length-append front (byte "," ∷ back)) in
    let ascii : get_or (front ++ byte "," ∷ back) (length front) 0 < 128 = rw (get_or-append_seam front 44 back 0) (omega arith) in (
      rw (take-append_seam front (byte "," ∷ back)) at
          (IsUtf8-take (front ++ byte "," ∷ back) (length front) utf8
          (IsCharBoundary-before_ascii (front ++ byte "," ∷ back) (length front) within ascii)),
      rw (drop-append-add front (byte "," ∷ back) 1) at
          (IsUtf8-drop (front ++ byte "," ∷ back) (length front + 1) utf8
          (IsCharBoundary-after_ascii (front ++ byte "," ∷ back) (length front) utf8 within ascii)),
    )

-- the parts of a text of UTF-8 with at most n bytes are UTF-8
short_text_has_utf8_parts : (n : ℕ) (text : List ℕ) (o : Option ℕ) → position is_comma text ≡ o → length text ≤ n → IsUtf8 text
    → AllByRecursion IsUtf8 (parts text)
short_text_has_utf8_parts n text None none short utf8 =
    subst (λ (ps : List (List ℕ)). AllByRecursion IsUtf8 ps) (sym (unfound_comma_leaves_one_part text none).0) (utf8, tt)
short_text_has_utf8_parts zero text (Some at) some short utf8 =
    let cut = first_comma_cuts_text text at some in
    absurd (omega (arith, short, ap length cut, length-append (take at text) (byte "," ∷ drop (at + 1) text)))
short_text_has_utf8_parts (suc n) text (Some at) some short utf8 =
    let cut = first_comma_cuts_text text at some in
    let pieces = pieces_are_utf8 (take at text) (drop (at + 1) text) (subst IsUtf8 cut utf8) in
    let shorter : length (drop (at + 1) text)
    ≤ n = omega (arith, short, ap length cut, length-append (take at text) (byte "," ∷ drop (at + 1) text)) in
    let whole : parts text ≡ take at text ∷ parts (drop (at + 1) text) =
    ap parts cut ∙ first_part_precedes_comma (take at text) (drop (at + 1) text) (first_comma_cuts_parts text at some).1 in
    subst (λ (ps : List (List ℕ)). AllByRecursion IsUtf8 ps) (sym whole)
    (pieces.0, short_text_has_utf8_parts n (drop (at + 1) text) (position is_comma (drop (at + 1) text)) refl shorter pieces.1)

-- the law: the parts of a text of UTF-8 are UTF-8
pub parts_are_utf8 : PartsAreUtf8
parts_are_utf8 text utf8 = short_text_has_utf8_parts (length text) text (position is_comma text) refl (omega arith) utf8
