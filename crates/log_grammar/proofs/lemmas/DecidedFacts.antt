-- Decidable facts in general: negations, failed tests, all elements of a list, all numbers below a bound.
use Rattle.std.proofs.Common.{◌≡◌, ◌⊎◌, inl, inr, ℕ, zero, suc, ◌<◌, Bool, false, List, [], ◌∷◌, subst, arith}
use Rattle.std.specs.List.{AllByRecursion}
use Rattle.std.proofs.lemmas.Bool.{cases_lt, cases_Bool, both_ways}
use Rattle.mac_core.proofs.lemmas.Decided.{Decided, decided_both}

-- if a fact is decidable, so is its negation
pub decided_not : {P : Type 0} → Decided P → Decided (P → ⊥)
decided_not (inl is) = inr (λ none. none is)
decided_not (inr none) = inl none

-- it is decidable whether a test fails
pub decided_false : (test : Bool) → Decided (test ≡ false)
decided_false test = elim (cases_Bool test) [ inl on ↦ inr (λ off. both_ways test off on) | inr off ↦ inl off ]

-- if a property is decidable for each thing, it is decidable whether all elements of a list have it
pub decided_each : {X : Type 0} (P : X → Type 0) → ((x : X) → Decided (P x)) → (xs : List X) → Decided (AllByRecursion P xs)
decided_each P each [] = inl tt
decided_each P each (x ∷ xs) = decided_both (P x) (AllByRecursion P xs) (each x) (decided_each P each xs)

-- if a property is decidable for each number, all numbers below k have it, or some number does not
pub all_hold_or_one_fails : (P : ℕ → Type 0) → ((n : ℕ) → Decided (P n)) → (k : ℕ) → ((n : ℕ) → n < k → P n) ⊎ ((n : ℕ) × (P n → ⊥))
all_hold_or_one_fails P decided zero = inl (λ n less. absurd (omega (arith, less)))
all_hold_or_one_fails P decided (suc k) = elim (all_hold_or_one_fails P decided k) [
  | inr one ↦ inr one
  | inl each ↦ elim (decided k) [
    | inr none ↦ inr (k, none)
    | inl is ↦ inl (λ n less. elim (cases_lt n k) [
      | inl below ↦ each n below
      | inr not ↦ let same : k ≡ n = omega (arith, less, not) in subst P same is
    ])
  ]
]
