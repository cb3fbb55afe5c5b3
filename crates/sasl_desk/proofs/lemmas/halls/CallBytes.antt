-- The bytes of a hall's log are those of its calls, and the lines of a session are those of its own calls.
use Rattle.std.proofs.Common.{◌≡◌, inl, inr, ℕ, List, [], ◌∷◌, ◌++◌, map, refl, sym, ◌∙◌, ap, subst, append_assoc, append-nil}
use Rattle.std.proofs.lemmas.Bool.Decides.{eqb_tells}
use Rattle.std.proofs.lemmas.List.{map-append}
use Rattle.scram_text.specs.SplitLines.{ended_by_lf}
use Rattle.scram_text.proofs.lemmas.SplitLines.{ended_by_lf-append}
use Rattle.log_grammar.specs.Lines.{LogLine, header_two, log_line_text}
use Rattle.log_grammar.specs.Numbered.{Numbered, numbered, of_number}
use Rattle.log_grammar.specs.NumberedLines.{numbered_text}
use Rattle.log_grammar.proofs.lemmas.many_sessions.LinesOfNumber.{of_number-append, of_number-own_items, of_number-other_items}
use Rattle.sasl_desk.specs.Halls.{hall_lines, hall_bytes, numbered_bytes}
use Rattle.sasl_desk.specs.Runs.{Call, wire_bytes, call_lines}
use Rattle.sasl_desk.proofs.lemmas.turns.TurnBytes.{wire_bytes-append}

-- the bytes of a hall's log with one more call are those before it, and then those of the call's lines
pub hall_bytes-next_call : (c : Numbered Call) (before : List (Numbered Call))
    → hall_bytes (c ∷ before) ≡ hall_bytes before ++ numbered_bytes (map (numbered c.number) c.value.lines)
hall_bytes-next_call c before =
    let more = map (numbered c.number) c.value.lines in
    let whole : numbered_bytes (hall_lines before ++ more) ≡ numbered_bytes (hall_lines before) ++ numbered_bytes more =
    ap ended_by_lf (map-append numbered_text (hall_lines before) more)
    ∙ ended_by_lf-append (map numbered_text (hall_lines before)) (map numbered_text more) in
    ap (λ (b : List ℕ). ended_by_lf (log_line_text header_two ∷ []) ++ b) whole
    ∙ sym (append_assoc (ended_by_lf (log_line_text header_two ∷ [])) (numbered_bytes (hall_lines before)) (numbered_bytes more))

-- the lines of a number in the log of a hall are those of its own calls, in their order
pub of_number-hall_lines : (n : ℕ) (calls : List (Numbered Call)) → of_number n (hall_lines calls) ≡ call_lines (of_number n calls)
of_number-hall_lines n [] = refl
of_number-hall_lines n (c ∷ before) = elim (eqb_tells n c.number) [
  | inl same ↦
      let here = subst (λ (m : ℕ). of_number n (map (numbered m) c.value.lines) ≡ c.value.lines) same.1
      (of_number-own_items n c.value.lines) in
      rw same.0 (of_number-append n (hall_lines before) (map (numbered c.number) c.value.lines)
      ∙ ap (λ (l : List LogLine). of_number n (hall_lines before) ++ l) here ∙ ap (λ (l : List LogLine). l ++ c.value.lines)
      (of_number-hall_lines n before))
  | inr other ↦
      rw other.0 (of_number-append n (hall_lines before) (map (numbered c.number) c.value.lines)
      ∙ ap (λ (l : List LogLine). of_number n (hall_lines before) ++ l)
      (of_number-other_items c.number n c.value.lines (λ same. other.1 (sym same)))
      ∙ append-nil (of_number n (hall_lines before)) ∙ of_number-hall_lines n before)
]

-- what the server says in a session's calls is what it said in those before the latest, and then in this one
pub wire_bytes-next_call : (c : Call) (before : List Call)
    → wire_bytes (call_lines (c ∷ before)) ≡ wire_bytes (call_lines before) ++ wire_bytes c.lines
wire_bytes-next_call c before = wire_bytes-append (call_lines before) c.lines
