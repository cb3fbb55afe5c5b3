-- The base64 fields of a message (RFC 4648, section 4).
use Rattle.std.specs.Prelude.{ℕ, ◌+◌, ◌*◌, ◌/◌, ◌≤◌, List, length}
use Rattle.std.specs.declared.result.Result.{Result}
use Rattle.base64.specs.declared.decode.DecodeError.{DecodeError}
use Rattle.base64.specs.Engines.{standard}
use Rattle.base64.specs.GeneralPurpose.{encode_of, decode_of, IsBytes}

-- the base64 of these bytes, padded and with no unused bits set: for "n,," it is "biws"
unfoldable pub base64 : List ℕ → List ℕ
base64 bytes = encode_of standard bytes

-- the length of the base64 of so many bytes: four characters for each three of them, or part of three
abbrev pub base64_len : (bytes : ℕ) → ℕ
base64_len bytes = 4 * ((bytes + 2) / 3)

-- the bytes that a base64 text decodes to, or the error
unfoldable pub base64_decoded : List ℕ → Result (List ℕ) DecodeError
base64_decoded text = decode_of standard text

-- what a base64 field may hold: 1 to `most` bytes
pub record IsField (most : ℕ) (bytes : List ℕ) : Type 0 where
  pub at_least : 1 ≤ length bytes
  pub at_most : length bytes ≤ most
  pub each : IsBytes bytes
