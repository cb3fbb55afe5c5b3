-- Bytes that do not contain a certain byte.
use Rattle.std.proofs.Common.{◌≡◌, inl, inr, ℕ, ◌<◌, Bool, true, false, not, List, [], ◌∷◌, refl, arith}
use Rattle.std.specs.Prelude.{◌==◌}
use Rattle.std.specs.List.{list_all}
use Rattle.std.specs.Str.Parse.{AllDigits}
use Rattle.std.proofs.lemmas.Bool.{cases_Bool, eqb-true, lt-ltb, both_ways, and_parts}

-- bytes that all pass a test that one byte fails do not contain that byte
pub class_lacks_byte : (byte : ℕ) (test : ℕ → Bool) (bytes : List ℕ) → test byte ≡ false → list_all test bytes ≡ true
    → list_all (λ c. not (c == byte)) bytes ≡ true
class_lacks_byte byte test [] fails all = refl
class_lacks_byte byte test (c ∷ bytes) fails all =
    let each = and_parts (test c) (list_all test bytes) all in
    elim (cases_Bool (c == byte)) [
      | inl hit ↦ absurd (both_ways (test byte) fails (rw (eqb-true c byte hit) at each.0))
      | inr miss ↦ rw miss (class_lacks_byte byte test bytes fails each.1)
    ]

-- decimal digits do not contain a byte below that of `0`
pub digits_lack_byte : (byte : ℕ) (digits : List ℕ) → byte < 48 → AllDigits 10 digits → list_all (λ c. not (c == byte)) digits ≡ true
digits_lack_byte byte [] below all = refl
digits_lack_byte byte (c ∷ digits) below all = elim (cases_Bool (c == byte)) [
  | inl hit ↦ let value = rw (eqb-true c byte hit, lt-ltb byte 48 below) at all.0 in absurd (omega (arith, value))
  | inr miss ↦ rw miss (digits_lack_byte byte digits below all.1)
]
