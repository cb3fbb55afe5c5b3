-- The hash functions that codes can be made with: their names, in books and as options, and HOTP with each.
use Rattle.std.specs.Prelude.{ℕ, List, codes, if◌then◌else◌, Option, Some, None}
use Rattle.std.specs.Str.{bytes_eq}
use Rattle.sha1.specs.Sha1.{sha1}
use Rattle.sha2.specs.Sha256.{sha256}
use Rattle.sha2.specs.Sha512.{sha512}
use Rattle.otp_core.specs.Code.{hotp_text}
use Rattle.otp_core.specs.declared.hash.OtpHash.{OtpHash}
use Rattle.otp_core.specs.declared.hash.OtpHash.TheVariants.{Sha1, Sha256, Sha512}

-- the name of a hash function
abbrev pub hash_name : OtpHash → List ℕ
hash_name Sha1 = codes "sha1"
hash_name Sha256 = codes "sha256"
hash_name Sha512 = codes "sha512"

-- the hash function with this name, if there is one
abbrev pub hash_named : List ℕ → Option OtpHash
hash_named name =
    if bytes_eq name (hash_name Sha1) then Some Sha1
    else if bytes_eq name (hash_name Sha256) then Some Sha256
    else if bytes_eq name (hash_name Sha512) then Some Sha512
    else None

-- the hash function itself, from a message to its digest
abbrev pub otp_hash_by : OtpHash → List ℕ → List ℕ
otp_hash_by Sha1 = sha1
otp_hash_by Sha256 = sha256
otp_hash_by Sha512 = sha512

-- the length of the hash function's blocks in bytes
abbrev pub otp_block_len_by : OtpHash → ℕ
otp_block_len_by Sha1 = 64
otp_block_len_by Sha256 = 64
otp_block_len_by Sha512 = 128

-- HOTP with this hash function, as RFC 6238, section 1.2, allows for TOTP
abbrev pub hotp_text_by : OtpHash → (digits : ℕ) → (key : List ℕ) → (counter : ℕ) → List ℕ
hotp_text_by hash = hotp_text (otp_hash_by hash) (otp_block_len_by hash)
