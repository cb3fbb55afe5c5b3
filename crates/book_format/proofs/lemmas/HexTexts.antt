-- Hexadecimal texts with too few or too many digits.
use Rattle.std.proofs.Common.{◌≡◌, ◌<◌, ◌*◌, ◌/◌, ◌&&◌, nat_le, ℕ, List, length, false, Ok, Err, refl, arith}
use Rattle.std.proofs.lemmas.Bool.Decides.{nat_tests}
use Rattle.hex.specs.Hex.{decode_of}
use Rattle.hex.proofs.HexLemmas.{decode_of-ok}
use Rattle.book_format.specs.inner.Values.{decoded}
use Rattle.book_format.specs.declared.fault.BookWhy.{BookWhy}

-- a text whose number of bytes is outside the bounds is refused
digits_outside_are_refused : (why : BookWhy) (least most : ℕ) (text : List ℕ)
    → ((n : ℕ) → length text ≡ 2 * n → (nat_le least n && nat_le n most) ≡ false) → decoded why least most (decode_of text) ≡ Err why
digits_outside_are_refused why least most text fails =
    elim (decode_of text) as (λ r. decode_of text ≡ r → decoded why least most r ≡ Err why) [
      | Ok bytes ↦ λ is. rw (fails (length bytes) (decode_of-ok text bytes is).2) refl
      | Err e ↦ λ is. refl
    ] refl

-- a text with fewer digits than the least number of bytes needs is refused
pub fewer_digits_are_refused : (why : BookWhy) (least most : ℕ) (text : List ℕ) → length text / 2 < least
    → decoded why least most (decode_of text) ≡ Err why
fewer_digits_are_refused why least most text h =
    digits_outside_are_refused why least most text (λ n twice. few least most n (omega (arith, twice)))
  where
    few : (least most n : ℕ) → n < least → (nat_le least n && nat_le n most) ≡ false
    few least most n h = grind (arith, nat_tests)

-- a text with more digits than the greatest number of bytes needs is refused
pub more_digits_are_refused : (why : BookWhy) (least most : ℕ) (text : List ℕ) → most < length text / 2
    → decoded why least most (decode_of text) ≡ Err why
more_digits_are_refused why least most text h =
    digits_outside_are_refused why least most text (λ n twice. many least most n (omega (arith, twice)))
  where
    many : (least most n : ℕ) → most < n → (nat_le least n && nat_le n most) ≡ false
    many least most n h = grind (arith, nat_tests)
