-- The lines of an input, one after another.
use Rattle.std.proofs.Common.{◌≡◌, inl, inr, ℕ, ◌≤◌, Bool, true, false, List, [], ◌∷◌, ◌++◌, length, Option, None, Some, IfSome, refl, sym, ◌∙◌, ap}
use Rattle.std.proofs.Common.{ap₂, subst, arith, append_assoc, append-nil}
use Rattle.std.specs.Io.KnownBytes.{IsAtEnd}
use Rattle.std.specs.Str.{byte}
use Rattle.scram_text.specs.SplitLines.{LacksLf, ended_by_lf, IsSplit}
use Rattle.scram_text.proofs.lemmas.SplitLines.{some_split, one_split}
use Rattle.command_io.specs.Input.{line_bytes, TakesLine, IsFirstLine, last_line, AreLinesOf}

-- empty bytes are split into no texts and no rest
no_bytes_have_no_texts : IsSplit [] [] []
no_bytes_have_no_texts = record { bytes_are = refl; lines = tt; after = refl }

-- empty bytes have no lines
no_bytes_have_no_lines : AreLinesOf [] []
no_bytes_have_no_lines = record { texts = []; rest = []; cut = no_bytes_have_no_texts; are = refl }

-- an input at its end has no lines
pub end_has_no_lines : (known : Option (List ℕ)) → IsAtEnd known → IfSome known (λ bytes. AreLinesOf bytes [])
end_has_no_lines None end = tt
end_has_no_lines (Some bytes) end = subst (λ (b : List ℕ). AreLinesOf b []) (sym end) no_bytes_have_no_lines

-- the only list of lines of empty bytes is the empty one
lines_of_nothing_are_none : (lines : List (List ℕ)) → AreLinesOf [] lines → lines ≡ []
lines_of_nothing_are_none lines a =
    let one = one_split [] a.texts [] a.rest [] a.cut no_bytes_have_no_texts in
    a.are ∙ ap₂ (λ (texts : List (List ℕ)) (rest : List ℕ). texts ++ last_line rest) one.0 one.1

-- a line with its LF, before other lines, is the first of all
line_with_lf_is_first : (bytes line left : List ℕ) → LacksLf line → bytes ≡ (line ++ byte "\n" ∷ []) ++ left → (lines : List (List ℕ))
    → AreLinesOf left lines
    → AreLinesOf bytes (line ∷ lines)
line_with_lf_is_first bytes line left lacks are lines a = record {
  texts = line ∷ a.texts;
  rest = a.rest;
  cut = record {
    bytes_are = are ∙ (ap (λ (b : List ℕ). (line ++ byte "\n" ∷ []) ++ b) a.cut.bytes_are ∙ sym
        (append_assoc (line ++ byte "\n" ∷ []) (ended_by_lf a.texts) a.rest));
    lines = (lacks, a.cut.lines);
    after = a.cut.after;
  };
  are = ap (λ (ls : List (List ℕ)). line ∷ ls) a.are;
}

-- a line that has a byte and no LF is the only one
line_without_lf_is_alone : (bytes line : List ℕ) → LacksLf line → 1 ≤ length line → bytes ≡ line → AreLinesOf bytes (line ∷ [])
line_without_lf_is_alone bytes [] lacks some are = absurd (omega (arith, some))
line_without_lf_is_alone bytes (c ∷ line) lacks some are =
    record { texts = []; rest = c ∷ line; cut = record { bytes_are = are; lines = tt; after = lacks }; are = refl }

-- a line taken from an input, before the lines that are left, is the first of all its lines
pub taken_line_begins_lines : (old : Option (List ℕ)) (line : List ℕ) (has_lf : Bool) (new : Option (List ℕ))
    → TakesLine old line has_lf new
    → 1 ≤ length (line_bytes line has_lf) → (lines : List (List ℕ)) → IfSome new (λ bytes. AreLinesOf bytes lines)
    → IfSome old (λ bytes. AreLinesOf bytes (line ∷ lines))
taken_line_begins_lines None line has_lf new takes some lines are = tt
taken_line_begins_lines (Some bytes) line has_lf None takes some lines are = absurd takes.taken
taken_line_begins_lines (Some bytes) line true (Some left) takes some lines are =
    line_with_lf_is_first bytes line left takes.lacks takes.taken lines are
taken_line_begins_lines (Some bytes) line false (Some left) takes some lines are =
    let end : left ≡ [] = takes.ended refl in
    let none : lines ≡ [] = lines_of_nothing_are_none lines (subst (λ (b : List ℕ). AreLinesOf b lines) end are) in
    let is : bytes ≡ line = takes.taken ∙ (ap (λ (b : List ℕ). line ++ b) end ∙ append-nil line) in
    subst (λ (ls : List (List ℕ)). AreLinesOf bytes (line ∷ ls)) (sym none) (line_without_lf_is_alone bytes line takes.lacks some is)

-- the line taken from an input is its first
pub taken_line_is_first : (old : Option (List ℕ)) (line : List ℕ) (has_lf : Bool) (new : Option (List ℕ)) → TakesLine old line has_lf new
    → IsFirstLine old line
taken_line_is_first None line has_lf new takes = (takes.lacks, tt)
taken_line_is_first (Some bytes) line has_lf None takes = absurd takes.taken
taken_line_is_first (Some bytes) line true (Some left) takes =
    (takes.lacks, inr (left, takes.taken ∙ append_assoc line (byte "\n" ∷ []) left))
taken_line_is_first (Some bytes) line false (Some left) takes =
    (takes.lacks, inl (takes.taken ∙ (ap (λ (b : List ℕ). line ++ b) (takes.ended refl) ∙ append-nil line)))

-- each input whose bytes are known has a list of lines
pub some_lines : (known : Option (List ℕ)) → (lines : List (List ℕ)) × IfSome known (λ bytes. AreLinesOf bytes lines)
some_lines None = ([], tt)
some_lines (Some bytes) =
    let cut = some_split bytes in
    (cut.0 ++ last_line cut.1, record { texts = cut.0; rest = cut.1; cut = cut.2; are = refl })
