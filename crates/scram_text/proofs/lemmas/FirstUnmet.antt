-- Of the rows of a table all are met, or exactly one is the first that is not.
use Rattle.std.proofs.Common.{◌≡◌, ◌⊎◌, inl, inr, List, [], ◌∷◌, ◌++◌, sym, ◌∙◌, ap, subst, refl}
use Rattle.std.specs.List.{AllByRecursion}
use Rattle.mac_core.proofs.lemmas.Decided.{Decided}
use Rattle.scram_text.specs.FirstUnmet.{IsFirstUnmet}

-- the first row that is not met, found from the top: the top row; or that is met, and it is found below
abbrev pub IsFound : {R : Type 0} → (R → Type 0) → List R → R → Type 0
IsFound Asked [] r = ⊥
IsFound Asked (row ∷ rows) r = ((row ≡ r) × (Asked row → ⊥)) ⊎ (Asked row × IsFound Asked rows r)

-- with one more row at the top, which is met, the first that is not met is the same
abbrev pub met_row_keeps_first : {R : Type 0} (Asked : R → Type 0) (row : R) (rows : List R) (r : R)
    → Asked row → IsFirstUnmet Asked rows r → IsFirstUnmet Asked (row ∷ rows) r
met_row_keeps_first Asked row rows r met first = record {
  before = row ∷ first.before;
  after = first.after;
  split = ap (λ these. row ∷ these) first.split;
  met = (met, first.met);
  unmet = first.unmet;
}

-- a row that is found from the top is the first that is not met
pub found_is_first : {R : Type 0} (Asked : R → Type 0) (rows : List R) (r : R) → IsFound Asked rows r → IsFirstUnmet Asked rows r
found_is_first Asked [] r found = absurd found
found_is_first Asked (row ∷ rows) r (inl (same, unmet)) = record {
  before = [];
  after = rows;
  split = ap (λ top. top ∷ rows) same;
  met = tt;
  unmet = subst (λ top. Asked top → ⊥) same unmet;
}
found_is_first Asked (row ∷ rows) r (inr (met, found)) = met_row_keeps_first Asked row rows r met (found_is_first Asked rows r found)

-- a row that is not met, after rows that are, is found from the top
unmet_after_met_is_found : {R : Type 0} (Asked : R → Type 0) (before after : List R) (r : R) → AllByRecursion Asked before → (Asked r → ⊥)
    → IsFound Asked (before ++ r ∷ after) r
unmet_after_met_is_found Asked [] after r met unmet = inl (refl, unmet)
unmet_after_met_is_found Asked (row ∷ before) after r met unmet = inr (met.0, unmet_after_met_is_found Asked before after r met.1 unmet)

-- the first row that is not met is found
first_is_found : {R : Type 0} (Asked : R → Type 0) (rows : List R) (r : R) → IsFirstUnmet Asked rows r → IsFound Asked rows r
first_is_found Asked rows r first =
    subst (λ these. IsFound Asked these r) (sym first.split) (unmet_after_met_is_found Asked first.before first.after r first.met
    first.unmet)

-- at most one row is found from the top
one_found : {R : Type 0} (Asked : R → Type 0) (rows : List R) (r q : R) → IsFound Asked rows r → IsFound Asked rows q → r ≡ q
one_found Asked [] r q found other = absurd found
one_found Asked (row ∷ rows) r q (inl found) (inl other) = sym found.0 ∙ other.0
one_found Asked (row ∷ rows) r q (inl found) (inr other) = absurd (found.1 other.0)
one_found Asked (row ∷ rows) r q (inr found) (inl other) = absurd (other.1 found.0)
one_found Asked (row ∷ rows) r q (inr found) (inr other) = one_found Asked rows r q found.1 other.1

-- at most one row is the first that is not met
pub one_first_unmet : {R : Type 0} (Asked : R → Type 0) (rows : List R) (r q : R) → IsFirstUnmet Asked rows r → IsFirstUnmet Asked rows q
    → r ≡ q
one_first_unmet Asked rows r q first other =
    one_found Asked rows r q (first_is_found Asked rows r first) (first_is_found Asked rows q other)

-- if all rows are met, none is found from the top
met_rows_find_none : {R : Type 0} (Asked : R → Type 0) (rows : List R) (r : R) → AllByRecursion Asked rows → IsFound Asked rows r → ⊥
met_rows_find_none Asked [] r all found = found
met_rows_find_none Asked (row ∷ rows) r all (inl found) = found.1 all.0
met_rows_find_none Asked (row ∷ rows) r all (inr found) = met_rows_find_none Asked rows r all.1 found.1

-- if all rows are met, none is the first that is not
pub met_rows_have_no_first_unmet : {R : Type 0} (Asked : R → Type 0) (rows : List R) (r : R) → AllByRecursion Asked rows
    → IsFirstUnmet Asked rows r → ⊥
met_rows_have_no_first_unmet Asked rows r all first = met_rows_find_none Asked rows r all (first_is_found Asked rows r first)

-- if each row is decidable, one is the first that is not met, or all are met
pub first_unmet_or_all_met : {R : Type 0} (Asked : R → Type 0) (rows : List R) → ((r : R) → Decided (Asked r))
    → ((r : R) × IsFirstUnmet Asked rows r) ⊎ AllByRecursion Asked rows
first_unmet_or_all_met Asked [] decided = inr tt
first_unmet_or_all_met Asked (row ∷ rows) decided = elim (decided row) [
  | inr unmet ↦ inl (row, found_is_first Asked (row ∷ rows) row (inl (refl, unmet)))
  | inl met ↦ elim (first_unmet_or_all_met Asked rows decided) [
    | inl first ↦ inl (first.0, met_row_keeps_first Asked row rows first.0 met first.1)
    | inr all ↦ inr (met, all)
  ]
]
