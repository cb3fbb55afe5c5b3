-- What is counted and found in lists, and what holds of each element.
use Rattle.std.proofs.Common.{◌≡◌, ◌+◌, ◌<◌, inl, inr, Bool, true, false, ℕ, List, [], ◌∷◌, ◌++◌, length, filter, refl, ◌∙◌, ap, subst, arith}
use Rattle.std.specs.Prelude.{count_by, slice_get, nat_lt}
use Rattle.std.specs.Bool.{Decides}
use Rattle.std.specs.List.{AllByRecursion, find, position, position_or_len}
use Rattle.std.specs.declared.option.Option.TheVariants.{None, Some}
use Rattle.std.proofs.lemmas.Bool.{cases_Bool}
use Rattle.std.proofs.lemmas.Bool.Decides.{Decides-ltb}
use Rattle.std.proofs.lemmas.List.Folds.{find_at}
use Rattle.std.proofs.lemmas.Option.{slice_get_cases}
use Rattle.std.proofs.lemmas.List.Sums.{sum_by-append}
use Rattle.std.proofs.lemmas.List.Elements.{All-weaker, All-from_recursion, recursion_from_All}
use Rattle.sasl_log.proofs.lemmas.ListCounts.{passing_counts_one, failing_counts_none, first_adds_its_count}

-- as many pass a test in two lists joined as in both
count_by-append : {X : Type 0} (p : X → Bool) (xs ys : List X) → count_by p (xs ++ ys) ≡ count_by p xs + count_by p ys
count_by-append p xs ys = sum_by-append _ xs ys

-- an element counts the same at the end of a list as at its head
pub last_counts_as_first : {X : Type 0} (p : X → Bool) (xs : List X) (x : X) → count_by p (xs ++ x ∷ []) ≡ count_by p (x ∷ xs)
last_counts_as_first p xs x = omega (arith, count_by-append p xs (x ∷ []), first_adds_its_count p x xs)

-- if each element of a list has a property, and another follows from it, each has the other
pub each_follows : {X : Type 0} (P Q : X → Type 0) → ((x : X) → P x → Q x) → (xs : List X) → AllByRecursion P xs → AllByRecursion Q xs
each_follows P Q on xs all = recursion_from_All Q xs (All-weaker P Q on xs (All-from_recursion P xs all))

-- what follows from two facts is true of each element of a list if both facts are
pub each_follows_from_both : {X : Type 0} (P Q R : X → Type 0) (xs : List X) → AllByRecursion P xs → AllByRecursion Q xs
    → ((x : X) → P x → Q x → R x)
    → AllByRecursion R xs
each_follows_from_both P Q R [] these those both = tt
each_follows_from_both P Q R (x ∷ xs) these those both = (both x these.0 those.0, each_follows_from_both P Q R xs these.1 those.1 both)

-- if no element passes a test, `filter` keeps none
pub filter_keeps_none_if_none_passes : {X : Type 0} (p : X → Bool) (xs : List X) → AllByRecursion (λ x. p x ≡ false) xs → filter p xs ≡ []
filter_keeps_none_if_none_passes p [] none = refl
filter_keeps_none_if_none_passes p (x ∷ xs) none = rw none.0 (filter_keeps_none_if_none_passes p xs none.1)

-- the element at the first place that passes is the first that does
pub found_is_at_position : {X : Type 0} (p : X → Bool) (xs : List X) (i : ℕ) → position p xs ≡ Some i → find p xs ≡ slice_get xs i
found_is_at_position p xs i is = elim (cases_Bool (nat_lt (position_or_len p xs) (length xs))) [
  | inl less ↦
      let there = rw less at is in
      let same : position_or_len p xs ≡ i = cc there in
      find_at p xs ∙ ap (λ (k : ℕ). slice_get xs k) same
  | inr not_less ↦ let nowhere = rw not_less at is in absurd (cc nowhere)
]

-- if `position` finds no element that passes, `find` finds none
pub find_gives_none_without_position : {X : Type 0} (p : X → Bool) (xs : List X) → position p xs ≡ None → find p xs ≡ None
find_gives_none_without_position p xs is = elim (cases_Bool (nat_lt (position_or_len p xs) (length xs))) [
  | inl less ↦ let there = rw less at is in absurd (cc there)
  | inr not_less ↦
      let past = subst (λ (b : Bool). Decides b (position_or_len p xs < length xs)) not_less
      (Decides-ltb (position_or_len p xs) (length xs)) in
      find_at p xs ∙ elim (slice_get_cases xs (position_or_len p xs)).1 [
        | inl (x, less, is_there, at) ↦ let true_is : false ≡ true = past.1 less in absurd (cc true_is)
        | inr (long, none) ↦ none
      ]
]

-- if `find` finds no element that passes, none is counted
pub none_is_counted_if_none_found : {X : Type 0} (p : X → Bool) (xs : List X) → find p xs ≡ None → count_by p xs ≡ 0
none_is_counted_if_none_found p [] none = refl
none_is_counted_if_none_found p (x ∷ xs) none = elim (cases_Bool (p x)) [
  | inl passes ↦ let some = rw passes at none in absurd (cc some)
  | inr fails ↦
      let rest = rw fails at none in
      omega (arith, failing_counts_none p x fails, first_adds_its_count p x xs, none_is_counted_if_none_found p xs rest)
]

-- the element that `find` finds passes, and what holds of each holds of it
pub found_has_property : {X : Type 0} (P : X → Type 0) (p : X → Bool) (xs : List X) (y : X) → AllByRecursion P xs → find p xs ≡ Some y → P y
    × (p y ≡ true)
found_has_property P p [] y all is = absurd (cc is)
found_has_property P p (x ∷ xs) y all is = elim (cases_Bool (p x)) [
  | inl passes ↦
      let there = rw passes at is in
      let same : x ≡ y = cc there in
      (subst P same all.0, subst (λ z. p z ≡ true) same passes)
  | inr fails ↦ found_has_property P p xs y all.1 (rw fails at is)
]

-- an element that `find` finds is counted
pub found_is_counted : {X : Type 0} (p : X → Bool) (xs : List X) (y : X) → find p xs ≡ Some y → count_by p xs ≡ 0 → ⊥
found_is_counted p [] y is none = cc is
found_is_counted p (x ∷ xs) y is none = elim (cases_Bool (p x)) [
  | inl passes ↦ omega (arith, none, first_adds_its_count p x xs, passing_counts_one p x passes)
  | inr fails ↦ found_is_counted p xs y (rw fails at is) (omega (arith, none, first_adds_its_count p x xs))
]
