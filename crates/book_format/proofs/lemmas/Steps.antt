-- What is known of the steps of a reading that gives a value.
use Rattle.std.proofs.Common.{◌≡◌, Bool, true, false, Option, Some, None, ok_or, Result, Ok, Err, refl}
use Rattle.std.specs.Result.{OnOk, is_err}
use Rattle.book_format.specs.inner.Steps.{◌>>=◌, pass_or}

-- if two steps together give a value, the first gives one, and the second gives the value from it
pub each_step_gives_value : {A B E : Type 0} (first : Result A E) (next : A → Result B E) (y : B) → (first >>= next) ≡ Ok y
    → (x : A) × (first ≡ Ok x) × (next x ≡ Ok y)
each_step_gives_value (Ok x) next y h = (x, refl, h)
each_step_gives_value (Err e) next y h = absurd (cc h)

-- if demanding a value of an option gave one, the option holds it
pub option_holds_value : {A E : Type 0} (o : Option A) (e : E) (x : A) → ok_or o e ≡ Ok x → o ≡ Some x
option_holds_value (Some x) e y h = cc h
option_holds_value None e y h = absurd (cc h)

-- if a test gave no fault, it passed
pub test_was_passed : {F : Type 0} (b : Bool) (fault : F) (x : Unit {0}) → pass_or b fault ≡ Ok x → b ≡ true
test_was_passed true fault x h = refl
test_was_passed false fault x h = absurd (cc h)

-- two Ok results that are the same hold the same value
pub same_ok_has_same_value : {A E : Type 0} (x y : A) → ◌≡◌ {A = Result A E} (Ok x) (Ok y) → x ≡ y
same_ok_has_same_value x y h = cc h

-- two Err results that are the same hold the same fault
pub same_err_has_same_fault : {A E : Type 0} (a b : E) → ◌≡◌ {A = Result A E} (Err a) (Err b) → a ≡ b
same_err_has_same_fault a b h = cc h

-- what is true if a result is Ok is true if it is not Err
pub fact_holds_unless_err : {A E : Type 0} (P : Type 0) (r : Result A E) → is_err r ≡ false → OnOk r P → P
fact_holds_unless_err P (Ok x) h p = p
fact_holds_unless_err P (Err e) h p = absurd (cc h)
