-- The formulas for each SCRAM mechanism: with SHA-1 for SCRAM-SHA-1 (RFC 5802), with SHA-256 for SCRAM-SHA-256 (RFC 7677).
use Rattle.std.specs.Prelude.{ℕ, ◌==◌, List, codes}
use Rattle.std.specs.List.{slice_split, Contains}
use Rattle.std.specs.Str.{byte}
use Rattle.sha1.specs.Sha1.{Holds, sha1}
use Rattle.sha2.specs.Sha256.{sha256}
use Rattle.sha2.specs.Hashers.{Holds256}
use Rattle.mac_core.specs.Hmac.{hmac, IsMacOf}
use Rattle.mac_core.specs.Keys.{hi, client_key, stored_key, server_key, password_stored_key, password_server_key}
use Rattle.mac_core.specs.declared.digest.HSha1.{HSha1}
use Rattle.mac_core.specs.declared.digest.HSha256.{HSha256}
use Rattle.mac_core.specs.declared.mechanism.Mechanism.{Mechanism}
use Rattle.mac_core.specs.declared.mechanism.Mechanism.TheVariants.{ScramSha1, ScramSha256}
use Rattle.mac_core.specs.declared.mechanism.ScramMac.{ScramMac}
use Rattle.mac_core.specs.declared.mechanism.ScramMac.TheVariants.{BySha1, BySha256}

-- the mechanism's name (RFC 5802, section 4, and RFC 7677, section 3)
abbrev pub name_of : Mechanism → List ℕ
name_of ScramSha1 = codes "SCRAM-SHA-1"
name_of ScramSha256 = codes "SCRAM-SHA-256"

-- the mechanism's name is one of the names that the text lists between spaces, as in "SCRAM-SHA-1 SCRAM-SHA-256"
abbrev pub IsOffered : Mechanism → (names : List ℕ) → Type 0
IsOffered mechanism names = Contains (slice_split (λ c. c == byte " ") names) (name_of mechanism)

-- H of the mechanism (RFC 5802, section 4, and RFC 7677, section 3)
abbrev pub hash_by : Mechanism → (text : List ℕ) → List ℕ
hash_by ScramSha1 = sha1
hash_by ScramSha256 = sha256

-- the length in bytes of a block of the mechanism's hash function (FIPS 180-4, section 1)
abbrev pub block_len_by : Mechanism → ℕ
block_len_by ScramSha1 = 64
block_len_by ScramSha256 = 64

-- the length in bytes of the mechanism's digests, MACs and keys
abbrev pub digest_len_by : Mechanism → ℕ
digest_len_by ScramSha1 = 20
digest_len_by ScramSha256 = 32

-- HMAC of the mechanism
abbrev pub hmac_by : Mechanism → (key text : List ℕ) → List ℕ
hmac_by mechanism = hmac (hash_by mechanism) (block_len_by mechanism)

-- Hi of the mechanism; Hi of a password is its SaltedPassword
abbrev pub hi_by : Mechanism → (str salt : List ℕ) → (i : ℕ) → List ℕ
hi_by mechanism = hi (hash_by mechanism) (block_len_by mechanism)

-- ClientKey of a SaltedPassword
abbrev pub client_key_by : Mechanism → (salted : List ℕ) → List ℕ
client_key_by mechanism = client_key (hash_by mechanism) (block_len_by mechanism)

-- StoredKey of a ClientKey
abbrev pub stored_key_by : Mechanism → (client_key : List ℕ) → List ℕ
stored_key_by mechanism = stored_key (hash_by mechanism)

-- ServerKey of a SaltedPassword
abbrev pub server_key_by : Mechanism → (salted : List ℕ) → List ℕ
server_key_by mechanism = server_key (hash_by mechanism) (block_len_by mechanism)

-- StoredKey of a password
abbrev pub password_stored_key_by : Mechanism → (password salt : List ℕ) → (i : ℕ) → List ℕ
password_stored_key_by mechanism = password_stored_key (hash_by mechanism) (block_len_by mechanism)

-- ServerKey of a password
abbrev pub password_server_key_by : Mechanism → (password salt : List ℕ) → (i : ℕ) → List ℕ
password_server_key_by mechanism = password_server_key (hash_by mechanism) (block_len_by mechanism)

-- the running MAC is that of this key and text, with the mechanism's hash function
abbrev pub IsScramMac : Mechanism → ScramMac → (key text : List ℕ) → Type 0
IsScramMac ScramSha1 (BySha1 mac) key text =
    IsMacOf (λ (h : HSha1) (m : List ℕ). Holds h.hasher m) sha1 (block_len_by ScramSha1) mac key text
IsScramMac ScramSha256 (BySha256 mac) key text =
    IsMacOf (λ (h : HSha256) (m : List ℕ). Holds256 h.hasher m) sha256 (block_len_by ScramSha256) mac key text
IsScramMac ScramSha1 (BySha256 mac) key text = ⊥
IsScramMac ScramSha256 (BySha1 mac) key text = ⊥
