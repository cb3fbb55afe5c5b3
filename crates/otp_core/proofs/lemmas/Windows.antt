-- Where a token's window begins, given the last step that passed.
use Rattle.std.proofs.Common.{◌≡◌, ◌≤◌, ◌<◌, ◌+◌, ◌↔◌, ℕ, Option, Some, None, max, sym, ◌∙◌, arith}
use Rattle.std.specs.Option.{ForSome}
use Rattle.std.proofs.lemmas.Option.{same_Some, none-some}

-- if a step has passed, the window begins after it, or at its own first step if that is later
pub last_step_cuts_window : {N : Type 0} (o : Option ℕ) (last first cut end w : ℕ) → o ≡ Some last → cut ≡ max first (last + 1)
    → (N ↔ ((first ≤ w) × (w < end))) → ((N × ForSome o (λ l. l < w)) ↔ ((cut ≤ w) × (w < end)))
last_step_cuts_window o last first cut end w is value near = (
  (λ h. let above : last < w = h.1 last is in let within = near.0 h.0 in let low : first ≤ w = within.0 in ((omega arith), within.1)),
  (λ h. let low : cut ≤ w = h.0 in let begins : first ≤ w = omega arith in let above : last < w = omega arith in
      (near.1 (begins, h.1), λ x at. let same : x ≡ last = same_Some x last (sym at ∙ is) in omega arith)),
)

-- if no step has passed, the window is whole
pub no_last_step_keeps_window : {N : Type 0} (o : Option ℕ) (first end w : ℕ) → o ≡ None
    → (N ↔ ((first ≤ w) × (w < end))) → ((N × ForSome o (λ l. l < w)) ↔ ((first ≤ w) × (w < end)))
no_last_step_keeps_window o first end w is near = (
  (λ h. near.0 h.0),
  (λ h. (near.1 h, λ x at. absurd (none-some x (sym is ∙ at)))),
)
