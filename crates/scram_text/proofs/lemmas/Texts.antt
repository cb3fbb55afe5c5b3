-- Texts of which messages are made: each is UTF-8 without NUL.
use Rattle.std.proofs.Common.{◌≡◌, inl, inr, ℕ, zero, suc, ◌<◌, Bool, true, false, not, ◌&&◌, List, [], ◌∷◌, ◌++◌, length, refl, arith}
use Rattle.std.specs.Prelude.{decimal, nat_le, ◌==◌}
use Rattle.std.specs.List.{list_all}
use Rattle.std.specs.Str.{IsAscii}
use Rattle.std.proofs.lemmas.Bool.{cases_lt, leb-true, le-leb, lt-leb, both_ways, ne_eqb, and_parts}
use Rattle.std.proofs.lemmas.Fmt.{IsAscii-decimal, decimal_is_IsNumeral}
use Rattle.std.proofs.lemmas.List.Folds.{list_all-append}
use Rattle.std.proofs.lemmas.Str.{IsUtf8-nil, IsUtf8-from_ascii, IsUtf8-append}
use Rattle.base64.specs.Engines.{standard}
use Rattle.base64.specs.GeneralPurpose.{IsBytes}
use Rattle.base64.proofs.EngineFacts.{IsAscii-encode_of}
use Rattle.scram_text.specs.Class.{is_comma, is_cb_char, is_printable, is_plain, IsNonce, IsUtf8Text}
use Rattle.scram_text.specs.Name.{byte_spelling, name_spelling}
use Rattle.scram_text.specs.Base64Field.{base64}
use Rattle.scram_text.specs.Parts.{IsCount, is_cb_name}
use Rattle.scram_text.proofs.lemmas.Base64Texts.{base64_passes_test}
use Rattle.scram_text.proofs.lemmas.Counts.{count_is_below_2_64}
use Rattle.scram_text.proofs.lemmas.Names.{byte_spelling_by_cases}
use Rattle.scram_text.proofs.lemmas.WithoutByte.{class_lacks_byte, digits_lack_byte}

-- a byte is not NUL
abbrev is_no_nul : ℕ → Bool
is_no_nul c = not (c == 0)

-- the empty text is UTF-8
pub empty_is_text : IsUtf8Text []
empty_is_text = record { utf8 = IsUtf8-nil; no_nul = refl }

-- two texts in UTF-8, one after the other, are UTF-8
pub IsUtf8Text-append : (front back : List ℕ) → IsUtf8Text front → IsUtf8Text back → IsUtf8Text (front ++ back)
IsUtf8Text-append front back is also = record {
  utf8 = IsUtf8-append front back is.utf8 also.utf8;
  no_nul = rw (list_all-append is_no_nul front back, is.no_nul, also.no_nul) refl;
}

-- bytes of a class of ASCII characters are ASCII
class_is_ascii : (test : ℕ → Bool) (bytes : List ℕ) → ((c : ℕ) → test c ≡ true → c < 128) → list_all test bytes ≡ true → IsAscii bytes
class_is_ascii test [] below all i = omega arith
class_is_ascii test (c ∷ bytes) below all zero = below c (and_parts (test c) (list_all test bytes) all).0
class_is_ascii test (c ∷ bytes) below all (suc i) = class_is_ascii test bytes below (and_parts (test c) (list_all test bytes) all).1 i

-- bytes of a class of ASCII characters are a text
class_is_text : (test : ℕ → Bool) (bytes : List ℕ) → ((c : ℕ) → test c ≡ true → c < 128) → test 0 ≡ false → list_all test bytes ≡ true
    → IsUtf8Text bytes
class_is_text test bytes below no_nul all = record {
  utf8 = IsUtf8-from_ascii bytes (class_is_ascii test bytes below all);
  no_nul = class_lacks_byte 0 test bytes no_nul all;
}

-- a byte up to `~` is ASCII
up_to_tilde_is_ascii : (c : ℕ) → nat_le c 0x7E ≡ true → c < 128
up_to_tilde_is_ascii c is = omega (arith, leb-true c 0x7E is)

-- a plain byte, from the space to `~`, is below 128
plain_byte_is_ascii : (c : ℕ) → is_plain c ≡ true → c < 128
plain_byte_is_ascii c is = up_to_tilde_is_ascii c (and_parts (nat_le 0x20 c) (nat_le c 0x7E) is).1

-- a printable byte, from `!` to `~` but no comma, is below 128
printable_byte_is_ascii : (c : ℕ) → is_printable c ≡ true → c < 128
printable_byte_is_ascii c is =
    up_to_tilde_is_ascii c (and_parts (nat_le 0x21 c) (nat_le c 0x7E) (and_parts (nat_le 0x21 c && nat_le c 0x7E) (not (is_comma c))
    is).0).1

-- plain bytes are a text
pub plain_is_text : (bytes : List ℕ) → list_all is_plain bytes ≡ true → IsUtf8Text bytes
plain_is_text bytes all = class_is_text is_plain bytes plain_byte_is_ascii refl all

-- a nonce is a text
pub nonce_is_text : (most : ℕ) (nonce : List ℕ) → IsNonce most nonce → IsUtf8Text nonce
nonce_is_text most nonce is = class_is_text is_printable nonce printable_byte_is_ascii refl is.each

-- the spelling of a plain byte has only plain bytes
byte_spelling_is_plain : (c : ℕ) → is_plain c ≡ true → list_all is_plain (byte_spelling c) ≡ true
byte_spelling_is_plain c is = byte_spelling_by_cases (λ s. list_all is_plain s ≡ true) c (λ _. refl) (λ _. refl) (λ _ _. rw is refl)

-- the spelling of a plain name has only plain bytes
spelling_is_plain : (name : List ℕ) → list_all is_plain name ≡ true → list_all is_plain (name_spelling name) ≡ true
spelling_is_plain [] all = refl
spelling_is_plain (c ∷ name) all =
    let each = and_parts (is_plain c) (list_all is_plain name) all in
    rw (
      list_all-append is_plain (byte_spelling c) (name_spelling name),
      byte_spelling_is_plain c each.0,
      spelling_is_plain name each.1,
    ) refl

-- the spelling of a plain name is a text
pub spelling_is_text : (name : List ℕ) → list_all is_plain name ≡ true → IsUtf8Text (name_spelling name)
spelling_is_text name all = plain_is_text (name_spelling name) (spelling_is_plain name all)

-- the decimal of a count is a text
pub count_is_text : (count : ℕ) → IsCount count → IsUtf8Text (decimal count)
count_is_text count is = record {
  utf8 = IsUtf8-from_ascii (decimal count) (IsAscii-decimal count (count_is_below_2_64 count is));
  no_nul = digits_lack_byte 0 (decimal count) (omega arith) (decimal_is_IsNumeral count (count_is_below_2_64 count is)).0.1;
}

-- the base64 of bytes is a text
pub base64_is_text : (bytes : List ℕ) → IsBytes bytes → IsUtf8Text (base64 bytes)
unfolding base64
base64_is_text bytes fits = record {
  utf8 = IsUtf8-from_ascii _ (IsAscii-encode_of standard bytes);
  no_nul = base64_passes_test is_no_nul refl refl bytes fits;
}

-- a character of a channel binding's name is ASCII
cb_char_is_ascii : (c : ℕ) → is_cb_char c ≡ true → c < 128
cb_char_is_ascii c is = elim (cases_lt c 128) [
  | inl below ↦ below
  | inr above ↦ absurd (both_ways (is_cb_char c) (rw (
    le-leb 0x41 c (omega (arith, above)),
    lt-leb c 0x5A (omega (arith, above)),
    le-leb 0x61 c (omega (arith, above)),
    lt-leb c 0x7A (omega (arith, above)),
    le-leb 0x30 c (omega (arith, above)),
    lt-leb c 0x39 (omega (arith, above)),
    ne_eqb c 46 (λ e. omega (arith, above, e)),
    ne_eqb c 45 (λ e. omega (arith, above, e)),
  ) refl) is)
]

-- the name of a channel binding is a text
pub cb_name_is_text : (name : List ℕ) → is_cb_name name ≡ true → IsUtf8Text name
cb_name_is_text name is =
    class_is_text is_cb_char name cb_char_is_ascii refl (and_parts (nat_le 1 (length name)) (list_all is_cb_char name) is).1
