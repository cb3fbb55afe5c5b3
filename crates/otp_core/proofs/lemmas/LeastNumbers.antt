-- The least number of a kind, if it is decidable whether a number is of that kind.
use Rattle.std.proofs.Common.{◌≡◌, ◌<◌, ◌≤◌, ◌⊎◌, ℕ, zero, suc, arith, inl, inr, subst}
use Rattle.std.proofs.lemmas.Bool.{cases_lt}
use Rattle.mac_core.proofs.lemmas.Decided.{Decided}

-- below a number there is a least one for which a decidable fact is true, or it is true for none
pub least_or_none : (P : ℕ → Type 0) → ((k : ℕ) → Decided (P k)) → (n : ℕ)
    → ((c : ℕ) × P c × ((k : ℕ) → P k → c ≤ k)) ⊎ ((k : ℕ) → k < n → P k → ⊥)
least_or_none P decided zero = inr (λ k low p. absurd (omega arith))
least_or_none P decided (suc n) = elim (least_or_none P decided n) [
  | inl found ↦ inl found
  | inr none ↦ elim (decided n) [
    | inl here ↦ inl (n, here, λ k p. elim (cases_lt k n) [ inl low ↦ absurd (none k low p) | inr h ↦ h ])
    | inr other ↦ inr (λ k low p. elim (cases_lt k n) [
      | inl lower ↦ none k lower p
      | inr high ↦ let same : k ≡ n = omega arith in other (subst P same p)
    ])
  ]
]
