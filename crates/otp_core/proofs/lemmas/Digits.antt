-- The last digits of a number are ASCII digits, as many as were asked for.
use Rattle.std.proofs.Common.{◌≡◌, ◌+◌, ◌/◌, ◌%◌, ℕ, zero, suc, List, [], ◌∷◌, ◌++◌, length, refl, arith, rules, add-one, append_assoc, length-append}
use Rattle.std.specs.Prelude.{All}
use Rattle.std.specs.Char.{IsAsciiDigit}
use Rattle.std.specs.Str.{IsUtf8, byte}
use Rattle.std.proofs.lemmas.List.Elements.{All-push}
use Rattle.std.proofs.lemmas.Str.{IsUtf8-from_ascii}
use Rattle.std.proofs.lemmas.Grind.{common_steps}
use Rattle.otp_core.specs.Ranges.{IsDigitCount}
use Rattle.otp_core.specs.Code.{last_digits, IsCodeText}

-- as many last digits are taken as were asked for
length-last_digits : (count number : ℕ) → length (last_digits count number) ≡ count
unfolding last_digits
length-last_digits zero number = refl
length-last_digits (suc count) number =
    omega (arith, length-last_digits count (number / 10), length-append (last_digits count (number / 10)) ((byte "0" + number % 10) ∷ []))

-- each of the last digits of a number is an ASCII digit
last_digits_are_digits : (count number : ℕ) → All IsAsciiDigit (last_digits count number)
unfolding last_digits
last_digits_are_digits zero number = search rules
last_digits_are_digits (suc count) number =
    All-push IsAsciiDigit _ _ (last_digits_are_digits count (number / 10)) (search (rules, arith))

-- the last of the digits that are left moves in front of those that were found
pub last_digits-more : (more number : ℕ) (rest : List ℕ)
    → last_digits (more + 1) number ++ rest ≡ last_digits more (number / 10) ++ ((byte "0" + number % 10) ∷ rest)
unfolding last_digits
last_digits-more more number rest = rw (add-one, append_assoc) refl

-- a text of ASCII digits is UTF-8
pub IsUtf8-from_digits : (text : List ℕ) → All IsAsciiDigit text → IsUtf8 text
IsUtf8-from_digits text all = IsUtf8-from_ascii text (grind (arith, common_steps))

-- the last digits of a number, as many as a code has, are a code's text
pub IsCodeText-last_digits : (count number : ℕ) → IsDigitCount count → IsCodeText (last_digits count number)
IsCodeText-last_digits count number range = record {
  count = rw (length-last_digits count number) range;
  digits = last_digits_are_digits count number;
}
