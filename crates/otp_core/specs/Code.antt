-- HOTP values as text (RFC 4226, section 5.3) and the steps of TOTP (RFC 6238, section 4.2).
use Rattle.std.specs.Prelude.{ℕ, zero, suc, ◌+◌, ◌-◌, ◌/◌, ◌%◌, ◌^◌, List, [], ◌∷◌, ◌++◌, length, All, slice_index}
use Rattle.std.specs.Int.{w32, w64, from_be_bytes, to_be_bytes}
use Rattle.std.specs.Char.{IsAsciiDigit}
use Rattle.std.specs.Str.{byte}
use Rattle.mac_core.specs.Hmac.{hmac}
use Rattle.otp_core.specs.Ranges.{IsDigitCount}

-- the least number of bytes of a tag that is truncated: as many as a tag of SHA-1 has
abbrev pub min_tag_len : ℕ
min_tag_len = 20

-- the offset of the dynamic truncation: the low four bits of the tag's last byte
abbrev pub offset : List ℕ → ℕ
offset tag = slice_index tag (length tag - 1) % 16

-- dynamic truncation: the four bytes from the offset on as a number, most significant first, without its top bit
abbrev pub truncated : List ℕ → ℕ
truncated tag =
    let at = offset tag in
    from_be_bytes w32 (slice_index tag at ∷ slice_index tag (at + 1) ∷ slice_index tag (at + 2) ∷ slice_index tag (at + 3) ∷ []) % 2 ^ 31

-- the last `count` decimal digits of a number as ASCII, leading zeros included
unfoldable pub last_digits : (count number : ℕ) → List ℕ
last_digits zero number = []
last_digits (suc count) number = last_digits count (number / 10) ++ (byte "0" + number % 10) ∷ []

-- Truncate of a tag: the dynamic truncation modulo 10 ^ digits, written with that many digits
abbrev pub code_of : (digits : ℕ) → (tag : List ℕ) → List ℕ
code_of digits tag = last_digits digits (truncated tag % 10 ^ digits)

-- HOTP(K, C) = Truncate(HMAC(K, C)), with the counter as 8 bytes, most significant first
abbrev pub hotp_text : (hash : List ℕ → List ℕ) → (block_len digits : ℕ) → (key : List ℕ) → (counter : ℕ) → List ℕ
hotp_text hash block_len digits key counter = code_of digits (hmac hash block_len key (to_be_bytes w64 counter))

-- a code's text: 6 to 8 ASCII digits
pub record IsCodeText (text : List ℕ) : Type 0 where
  pub count : IsDigitCount (length text)
  pub digits : All IsAsciiDigit text

-- T = (moment - T0) / X: the number of whole steps of x seconds from t0 to a moment
abbrev pub steps_from : (t0 x moment : ℕ) → ℕ
steps_from t0 x moment = (moment - t0) / x
