-- The place of a number depends only on the lines of this number.
use Rattle.std.proofs.Common.{◌≡◌, inl, inr, ℕ, List, sym, ◌∙◌, ap, subst, ◌++◌, ◌∷◌, []}
use Rattle.std.specs.declared.option.Option.{Option}
use Rattle.std.proofs.lemmas.List.{same_from_push}
use Rattle.scram_text.proofs.lemmas.ListEnds.{empty_has_no_last}
use Rattle.account_book.specs.AccountAttempt.{AccountAttempt}
use Rattle.log_grammar.specs.Lines.{LogLine}
use Rattle.log_grammar.specs.Places.{Place}
use Rattle.log_grammar.specs.Demands.{Demands}
use Rattle.log_grammar.specs.Numbered.{Numbered, Visit, of_number, visit_lines, visit_place, VisitMeets, IsNumberedLogUpTo}
use Rattle.log_grammar.specs.state_machine.NumberedSteps.{IsVisitTransition}
use Rattle.log_grammar.proofs.lemmas.many_sessions.OneReading.{one_next_visit_place}
use Rattle.log_grammar.proofs.lemmas.state_machine.OneReading.{OneAccount}
use Rattle.log_grammar.proofs.lemmas.ListEnds.{holds_by_last}
use Rattle.log_grammar.proofs.lemmas.many_sessions.Visits.{ShorterVisit, visit_shortens, empty_visit_is_between}

-- if the lines of a number end with this line, the number has a shorter visit with the lines before it
pub visit_has_last_line : (d : Demands) (lines : List LogLine) (line : LogLine) (p : Option Visit) → VisitMeets d p
    → lines ++ line ∷ [] ≡ visit_lines p → (a : ShorterVisit d p) × (lines ≡ visit_lines a.tree) × (line ≡ a.line)
visit_has_last_line d lines line p meets same = elim (visit_shortens d p meets) [
  | inl none ↦ absurd (empty_has_no_last lines line (same ∙ ap visit_lines none))
  | inr a ↦ let ends = same_from_push lines (visit_lines a.tree) line a.line (same ∙ a.lines) in (a, ends.0, ends.1)
]

-- two numbers with the same lines are at the same place
visits_share_place : (d : Demands) → OneAccount d → (lines : List LogLine) (p q : Option Visit) → VisitMeets d p → VisitMeets d q
    → lines ≡ visit_lines p → lines ≡ visit_lines q → visit_place p ≡ visit_place q
visits_share_place d one = holds_by_last
    (λ lines. (p q : Option Visit) → VisitMeets d p → VisitMeets d q → lines ≡ visit_lines p → lines ≡ visit_lines q
    → visit_place p ≡ visit_place q)
    (λ p q meets also mine other. empty_visit_is_between p (sym mine) ∙ sym (empty_visit_is_between q (sym other)))
    (λ lines line earlier p q meets also mine other.
    let (a, before, this) = visit_has_last_line d lines line p meets mine in
    let (b, also_before, that) = visit_has_last_line d lines line q also other in
    let was = earlier a.tree b.tree a.good b.good before also_before in
    let moved = subst (λ (l : LogLine). IsVisitTransition d (visit_place a.tree) l (visit_place q)) (sym that ∙ this)
    (subst (λ (r : Place). IsVisitTransition d r b.line (visit_place q)) (sym was) b.goes) in
    one_next_visit_place d one (visit_place a.tree) a.line (visit_place p) (visit_place q) a.goes moved)

-- if a challenge is for only one account, two numbers with the same lines, in one log or in two, are at the same place
pub numbers_share_place : (limit : ℕ) (d : Demands) → OneAccount d
    → (log other : List (Numbered LogLine)) (p q : ℕ → Place) (told also : List AccountAttempt)
    → IsNumberedLogUpTo limit d log p told → IsNumberedLogUpTo limit d other q also → (n m : ℕ) → of_number n log ≡ of_number m other
    → p n ≡ q m
numbers_share_place limit d one log other p q told also s r n m same =
    s.after n ∙ visits_share_place d one (of_number n log) (s.visit n) (r.visit m) (s.sessions.good n) (r.sessions.good m)
    (s.sessions.lines n) (same ∙ r.sessions.lines m) ∙ sym (r.after m)
