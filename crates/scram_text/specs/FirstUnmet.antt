-- The first of some demands that is not met. The demands are the rows of a table, in order.
use Rattle.std.specs.Prelude.{◌≡◌, List, ◌∷◌, ◌++◌}
use Rattle.std.specs.List.{AllByRecursion}

-- the row is the first of these that is not met: each row before it is met, and it is not
pub record IsFirstUnmet {R : Type 0} (Asked : R → Type 0) (rows : List R) (r : R) : Type 0 where
  pub before : List R
  pub after : List R
  pub split : rows ≡ before ++ r ∷ after
  pub met : AllByRecursion Asked before
  pub unmet : Asked r → ⊥
