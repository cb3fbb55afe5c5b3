-- The hash values of a mechanism's hash function (FIPS 180-4), each by the kit's definition for SHA-1 or for SHA-256.
use Rattle.std.specs.Prelude.{ℕ, ◌≡◌, ◌/◌, ◌%◌, ◌^◌, List, length, take}
use Rattle.sha1.specs.Sha1 as S1
use Rattle.sha2.specs.Sha256 as S256
use Rattle.mac_core.specs.declared.mechanism.Mechanism.{Mechanism}
use Rattle.mac_core.specs.declared.mechanism.Mechanism.TheVariants.{ScramSha1, ScramSha256}

-- the hash value in eight words: SHA-1's has only the first five
abbrev pub hash_value : Mechanism → (words : List ℕ) → List ℕ
hash_value ScramSha1 words = take 5 words
hash_value ScramSha256 words = words

-- H(0), the initial hash value (sections 5.3.1 and 5.3.3)
abbrev pub initial_value : Mechanism → List ℕ
initial_value ScramSha1 = S1.initial_hash
initial_value ScramSha256 = S256.initial_hash_256

-- H(i), from H(i - 1) and the block M(i) (sections 6.1.2 and 6.2.2)
abbrev pub compressed : Mechanism → (value block : List ℕ) → List ℕ
compressed ScramSha1 = S1.compress
compressed ScramSha256 = S256.compress

-- H(N) of a message: the hash value after the last block of the padded message
abbrev pub last_value : Mechanism → (message : List ℕ) → List ℕ
last_value ScramSha1 message = S1.hash_after (S1.padded_message message) (length (S1.padded_message message) / 64)
last_value ScramSha256 message = S256.final_hash S256.initial_hash_256 message

-- the digest that a last hash value is
abbrev pub digest_of : Mechanism → (value : List ℕ) → List ℕ
digest_of ScramSha1 value = S1.digest_bytes value 5
digest_of ScramSha256 value = S256.digest_bytes value 8

-- the hash value is that after the message's whole blocks, and the buffer begins with the bytes after them
abbrev pub IsAbsorbed : Mechanism → (value buffer message : List ℕ) → Type 0
IsAbsorbed ScramSha1 value buffer message = S1.IsAbsorbed value buffer message
IsAbsorbed ScramSha256 value buffer message = S256.IsAbsorbed S256.initial_hash_256 value buffer message

-- the words, the buffer and the count are of a hash that has read the message
pub record IsReading (mechanism : Mechanism) (words buffer : List ℕ) (count : ℕ) (message : List ℕ) : Type 0 where
  pub total : count ≡ length message % 2 ^ 64
  pub absorbed : IsAbsorbed mechanism (hash_value mechanism words) buffer message
