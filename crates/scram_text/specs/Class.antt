-- The character classes of SCRAM messages (RFC 5802, section 7), as tests of one byte, and runs of them, with this library's limits
-- on their length.
use Rattle.std.specs.Prelude.{ℕ, ◌≤◌, nat_le, ◌==◌, Bool, not, ◌&&◌, ◌||◌, IsTrue, List, length}
use Rattle.std.specs.List.{list_all}
use Rattle.std.specs.Str.{IsUtf8, byte}
use Rattle.scram_text.specs.Limits.{max_name_len, max_nonce_part_len, max_password_len, max_salt_len}

-- a comma, which separates the parts of a message
abbrev pub is_comma : ℕ → Bool
is_comma c = c == byte ","

-- no byte is this one
abbrev pub Lacks : (b : ℕ) → (bytes : List ℕ) → Type 0
Lacks b bytes = IsTrue (list_all (λ c. not (c == b)) bytes)

-- VCHAR = %x21-7E, from "!" to "~" (RFC 5234, appendix B.1)
abbrev pub is_vchar : ℕ → Bool
is_vchar c = nat_le (byte "!") c && nat_le c (byte "~")

-- printable = %x21-2B / %x2D-7E, as in nonces: "fyko+d2lbbFgONRv9qkxdawL"
abbrev pub is_printable : ℕ → Bool
is_printable c = is_vchar c && not (is_comma c)

-- a byte of a plain name or a password: %x20-7E, from " " to "~", which SASLprep leaves unchanged
abbrev pub is_plain : ℕ → Bool
is_plain c = nat_le (byte " ") c && nat_le c (byte "~")

-- ALPHA = %x41-5A / %x61-7A
abbrev pub is_letter : ℕ → Bool
is_letter c = nat_le (byte "A") c && nat_le c (byte "Z") || nat_le (byte "a") c && nat_le c (byte "z")

-- a character of a channel binding's name: ALPHA / DIGIT / "." / "-"
abbrev pub is_cb_char : ℕ → Bool
is_cb_char c = is_letter c || nat_le (byte "0") c && nat_le c (byte "9") || c == byte "." || c == byte "-"

-- 1 to `most` bytes that pass a test
pub record IsCharsOf (test : ℕ → Bool) (most : ℕ) (bytes : List ℕ) : Type 0 where
  pub at_least : 1 ≤ length bytes
  pub at_most : length bytes ≤ most
  pub each : IsTrue (list_all test bytes)

-- a name in plain bytes: 1 to 255 of %x20-7E
abbrev pub IsPlainName : List ℕ → Type 0
IsPlainName name = IsCharsOf is_plain max_name_len name

-- a password: 1 to 1024 bytes of %x20-7E
abbrev pub IsPassword : List ℕ → Type 0
IsPassword password = IsCharsOf is_plain max_password_len password

-- a nonce of 1 to `most` characters: 1*(printable)
abbrev pub IsNonce : (most : ℕ) → (nonce : List ℕ) → Type 0
IsNonce most nonce = IsCharsOf is_printable most nonce

-- what one end adds to a nonce: 1 to 256 characters
abbrev pub IsNoncePart : List ℕ → Type 0
IsNoncePart nonce = IsNonce max_nonce_part_len nonce

-- a salt: 1 to 64 bytes
pub record IsSalt (salt : List ℕ) : Type 0 where
  pub at_least : 1 ≤ length salt
  pub at_most : length salt ≤ max_salt_len

-- UTF-8 without NUL. In such a text, value-char is any character except the comma, and value-safe-char any except the comma and `=`.
pub record IsUtf8Text (bytes : List ℕ) : Type 0 where
  pub utf8 : IsUtf8 bytes
  pub no_nul : IsTrue (list_all (λ c. not (c == byte "\0")) bytes)
