-- What is known of a value that passed a test, and of a number that passed tests of bounds.
use Rattle.std.proofs.Common.{◌≡◌, ◌≤◌, ◌&&◌, nat_le, ℕ, [], ◌∷◌, Bool, true, false, Ok, refl, arith}
use Rattle.std.proofs.lemmas.Bool.Decides.{nat_tests}
use Rattle.book_format.specs.inner.Values.{value_or}
use Rattle.book_format.specs.Demands.{must}
use Rattle.book_format.specs.declared.fault.BookWhy.{BookWhy}
use Rattle.book_format.proofs.lemmas.Demands.{FollowsDemands}
use Rattle.book_format.proofs.lemmas.Steps.{same_ok_has_same_value}

-- a value that a test let through passed it, and is the one that came through
pub value_passed_test : {V : Type 0} (fits : Bool) (v x : V) (why : BookWhy) → value_or fits v why ≡ Ok x → (fits ≡ true) × (v ≡ x)
value_passed_test true v x why h = (refl, same_ok_has_same_value v x h)
value_passed_test false v x why h = absurd (cc h)

-- a number that is within two bounds passes the tests of them
pub bounds_are_passed : (least n most : ℕ) → least ≤ n → n ≤ most → (nat_le least n && nat_le n most) ≡ true
bounds_are_passed least n most a b = grind (arith, nat_tests)

-- a number that passes the tests of two bounds is within them
pub number_is_within : (least n most : ℕ) → (nat_le least n && nat_le n most) ≡ true → (least ≤ n) × (n ≤ most)
number_is_within least n most h = (low least n most h, high least n most h)
  where
    low : (least n most : ℕ) → (nat_le least n && nat_le n most) ≡ true → least ≤ n
    low least n most h = grind (arith, nat_tests)

    high : (least n most : ℕ) → (nat_le least n && nat_le n most) ≡ true → n ≤ most
    high least n most h = grind (arith, nat_tests)

-- a number that passes the test is at most the other
pub number_is_at_most : (n most : ℕ) → nat_le n most ≡ true → n ≤ most
number_is_at_most n most h = grind (arith, nat_tests)

-- a value that passes a test is let through, and any other is refused with its fault
pub value_or_follows : {V : Type 0} (fits : Bool) (v : V) (why : BookWhy) → FollowsDemands (must fits why ∷ []) (value_or fits v why)
value_or_follows true v why = refl
value_or_follows false v why = refl
