-- Where HALT and BUSY lead, and that any line may follow a line other than these two.
use Rattle.std.proofs.Common.{◌≡◌, ◌⊎◌, inl, inr, ℕ, refl, sym, ◌∙◌, subst}
use Rattle.log_grammar.specs.Lines.{LogLine, said, halt, busy}
use Rattle.log_grammar.specs.Places.{Place, before_all, got_code, ending, halted}
use Rattle.log_grammar.specs.Demands.{Demands}
use Rattle.log_grammar.specs.state_machine.Steps.{IsTransition}
use Rattle.log_grammar.specs.Numbered.{MayFollow}
use Rattle.log_grammar.specs.state_machine.NumberedSteps.{IsVisitTransition}

-- `S HALT` leads from a place of a session only to the halted place
pub halt_leads_to_halted : (d : Demands) (place next : Place) → IsTransition d place (said halt) next → next ≡ halted
halt_leads_to_halted d (got_code account sent) next h = h
halt_leads_to_halted d place next h = absurd h

-- BUSY may stand at no place of a session
pub busy_stands_in_no_session : (d : Demands) (place next : Place) → IsTransition d place (said busy) next → ⊥
busy_stands_in_no_session d before_all next h = h
busy_stands_in_no_session d place next h = absurd h

-- HALT leads a number to the halted place
pub visit_halt_leads_to_halted : (d : Demands) (place : Place) (line : LogLine) (next : Place) → line ≡ said halt
    → IsVisitTransition d place line next → next ≡ halted
visit_halt_leads_to_halted d place line next is (inl h) =
    halt_leads_to_halted d place next (subst (λ (l : LogLine). IsTransition d place l next) is h)
visit_halt_leads_to_halted d place line next is (inr b) = let wrong = sym is ∙ b.1 in absurd (cc wrong)

-- BUSY leads a number to the place where its `E` is due
pub visit_busy_leads_to_ending : (d : Demands) (place : Place) (line : LogLine) (next : Place) → line ≡ said busy
    → IsVisitTransition d place line next → next ≡ ending
visit_busy_leads_to_ending d place line next is (inl h) =
    absurd (busy_stands_in_no_session d place next (subst (λ (l : LogLine). IsTransition d place l next) is h))
visit_busy_leads_to_ending d place line next is (inr b) = b.2

-- a line is HALT, or it is BUSY, or any line may follow it
pub line_is_halt_or_busy_or_followed : (line : LogLine) → (line ≡ said halt) ⊎ ((line ≡ said busy)
    ⊎ ((n m : ℕ) (next : LogLine) → MayFollow n line m next))
line_is_halt_or_busy_or_followed (said halt) = inl refl
line_is_halt_or_busy_or_followed (said busy) = inr (inl refl)
line_is_halt_or_busy_or_followed line = inr (inr (λ n m next. tt))
