-- Decidable facts: it can be found out whether they are true.
use Rattle.std.proofs.Common.{◌≡◌, ◌⊎◌, inl, inr, ℕ, ◌≤◌, ◌<◌, Bool, true, List, arith}
use Rattle.std.specs.Str.{bytes_eq}
use Rattle.std.proofs.lemmas.Bool.{cases_Bool, cases_lt, both_ways}
use Rattle.std.proofs.lemmas.Bool.Decides.{eqb_tells}
use Rattle.std.proofs.lemmas.Slice.Eq.{bytes_eq-Decides}

-- a fact is true, or it is not
abbrev pub Decided : Type 0 → Type 0
Decided P = P ⊎ (P → ⊥)

-- a fact that is true if and only if a decidable one is true is decidable
pub decided_equivalent : (P Q : Type 0) → (P → Q) → (Q → P) → Decided P → Decided Q
decided_equivalent P Q to from (inl p) = inl (to p)
decided_equivalent P Q to from (inr other) = inr (λ q. other (from q))

-- it is decidable whether both of two facts are true
pub decided_both : (P Q : Type 0) → Decided P → Decided Q → Decided (P × Q)
decided_both P Q (inl p) (inl q) = inl (p, q)
decided_both P Q (inl p) (inr other) = inr (λ both. other both.1)
decided_both P Q (inr other) q = inr (λ both. other both.0)

-- it is decidable whether a test passes
pub decided_test : (test : Bool) → Decided (test ≡ true)
decided_test test = elim (cases_Bool test) [ inl passes ↦ inl passes | inr fails ↦ inr (λ passes. both_ways test fails passes) ]

-- it is decidable whether a number is at most another
pub decided_le : (m n : ℕ) → Decided (m ≤ n)
decided_le m n = elim (cases_lt n m) [ inl over ↦ inr (λ h. omega (arith, over, h)) | inr within ↦ inl within ]

-- it is decidable whether a number is less than another
pub decided_lt : (m n : ℕ) → Decided (m < n)
decided_lt m n = elim (cases_lt m n) [ inl under ↦ inl under | inr over ↦ inr (λ h. omega (arith, over, h)) ]

-- it is decidable whether two numbers are equal
pub decided_same_number : (m n : ℕ) → Decided (m ≡ n)
decided_same_number m n = elim (eqb_tells m n) [ inl same ↦ inl same.1 | inr other ↦ inr other.1 ]

-- it is decidable whether two texts are the same
pub decided_same_text : (xs ys : List ℕ) → Decided (xs ≡ ys)
decided_same_text xs ys = elim (cases_Bool (bytes_eq xs ys)) [
  | inl is ↦ inl ((bytes_eq-Decides xs ys).0 is)
  | inr other ↦ inr (λ e. let is = (bytes_eq-Decides xs ys).1 e in absurd (cc))
]
