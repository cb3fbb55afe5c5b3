-- Padded keys, last blocks and digests.
use Rattle.std.proofs.Common.{◌≡◌, ℕ, zero, suc, ◌+◌, ◌-◌, ◌*◌, ◌%◌, ◌^◌}
use Rattle.std.proofs.Common.{◌<◌, ◌≤◌, List, [], ◌∷◌, ◌++◌, length, take, replicate, slice_index}
use Rattle.std.proofs.Common.{refl, sym, ap, ◌∙◌, inl, inr, arith, length-append}
use Rattle.std.specs.Int.{w32}
use Rattle.std.proofs.lemmas.Bool.{cases_lt, lt-ltb, le-ltb}
use Rattle.std.proofs.lemmas.List.{append_assoc, length-map, length-replicate}
use Rattle.std.specs.Int.{w64, to_be_bytes}
use Rattle.std.specs.Prelude.{bit_xor}
use Rattle.sha1.specs.Sha1 as S1
use Rattle.sha2.specs.Sha256 as S256
use Rattle.sha2.proofs.Facts256.{length-sha256}
use Rattle.mac_core.specs.Digest.{length-sha1}
use Rattle.mac_core.specs.Hmac.{hmac, inner_block, outer_block, padded_key, xor_each}
use Rattle.mac_core.specs.Mechanism.{block_len_by, digest_len_by, hash_by, hmac_by}
use Rattle.mac_core.specs.declared.mechanism.Mechanism.{Mechanism}
use Rattle.mac_core.specs.declared.mechanism.Mechanism.TheVariants.{ScramSha1, ScramSha256}
use Rattle.hmac_midstate.specs.Midstate.{IsAbsorbed, IsReading, compressed, digest_of, hash_value, initial_value, last_value}
use Rattle.hmac_midstate.specs.Prepared.{value_after}
use Rattle.hmac_midstate.proofs.lemmas.Reading.{absorbed_fill, absorbed_nothing}

-- a digest has the mechanism's length
pub length-hash_by : (mechanism : Mechanism) (text : List ℕ) → length (hash_by mechanism text) ≡ digest_len_by mechanism
length-hash_by ScramSha1 text = length-sha1 text
length-hash_by ScramSha256 text = length-sha256 text

-- a digest has 20 or 32 bytes
pub digest_len_fits : (mechanism : Mechanism) → digest_len_by mechanism ≤ 32
digest_len_fits ScramSha1 = omega arith
digest_len_fits ScramSha256 = omega arith

-- a block has 64 bytes
pub block_len : (mechanism : Mechanism) → block_len_by mechanism ≡ 64
block_len ScramSha1 = refl
block_len ScramSha256 = refl

length-filled : (s : List ℕ) → length s ≤ 64 → length (s ++ replicate (64 - length s) 0) ≡ 64
length-filled s fits = omega (arith, length-append s (replicate (64 - length s) 0), length-replicate {A = ℕ} (64 - length s) 0)

-- K0 is a key that is not longer than a block, filled with zeros
pub padded_key_short : (mechanism : Mechanism) (key : List ℕ) → length key ≤ 64
    → padded_key (hash_by mechanism) (block_len_by mechanism) key ≡ key ++ replicate (64 - length key) 0
padded_key_short mechanism key fits = rw (block_len mechanism, le-ltb 64 (length key) fits) refl

-- K0 of a longer key is its digest, filled with zeros
pub padded_key_long : (mechanism : Mechanism) (key : List ℕ) → 64 < length key
    → padded_key (hash_by mechanism) (block_len_by mechanism) key
    ≡ hash_by mechanism key ++ replicate (64 - length (hash_by mechanism key)) 0
padded_key_long mechanism key more = rw (block_len mechanism, lt-ltb 64 (length key) more) refl

pub length-padded_key : (mechanism : Mechanism) (key : List ℕ)
    → length (padded_key (hash_by mechanism) (block_len_by mechanism) key) ≡ 64
length-padded_key mechanism key = elim (cases_lt 64 (length key)) [
  | inl more ↦
      rw (padded_key_long mechanism key more)
      (length-filled (hash_by mechanism key) (omega (arith, length-hash_by mechanism key, digest_len_fits mechanism)))
  | inr fits ↦ rw (padded_key_short mechanism key fits) (length-filled key fits)
]

-- K0 xor ipad, or K0 xor opad, is one block
pub length-xor_padded_key : (mechanism : Mechanism) (byte : ℕ) (key : List ℕ)
    → length (xor_each byte (padded_key (hash_by mechanism) (block_len_by mechanism) key)) ≡ 64
length-xor_padded_key mechanism byte key =
    length-map (padded_key (hash_by mechanism) (block_len_by mechanism) key) (λ (x : ℕ). bit_xor x byte) ∙ length-padded_key mechanism key

-- the hash value after one block has read that block
pub reads_block : (mechanism : Mechanism) (words b block : List ℕ) → length block ≡ 64
    → hash_value mechanism words ≡ value_after mechanism block → IsReading mechanism words b 64 block
reads_block mechanism words b block len eh =
    let whole : IsAbsorbed mechanism (compressed mechanism (initial_value mechanism) block) b block =
    absorbed_fill mechanism (initial_value mechanism) b b [] block block (absorbed_nothing mechanism b) (omega arith) refl in
    record { total = rw len refl; absorbed = rw eh whole }

-- the initial hash value has read nothing
pub reads_nothing : (mechanism : Mechanism) (words b : List ℕ) → hash_value mechanism words ≡ initial_value mechanism
    → IsReading mechanism words b 0 []
reads_nothing mechanism words b eh = record { total = refl; absorbed = rw eh (absorbed_nothing mechanism b) }

-- one compression of SHA-1, by its schedule and its rounds
pub compressed_by_1 : (mechanism : Mechanism) (words after w block : List ℕ) → mechanism ≡ ScramSha1 → w ≡ S1.schedule block 64
    → take 5 after ≡ S1.add_state (take 5 words) (S1.rounds (take 5 words) w 80)
    → hash_value mechanism after ≡ compressed mechanism (hash_value mechanism words) block
unfolding S1.compress
compressed_by_1 mechanism words after w block is ew ea =
    rw is (ea ∙ ap (λ (s : List ℕ). S1.add_state (take 5 words) (S1.rounds (take 5 words) s 80)) ew)

-- one compression of SHA-256, by its schedule and its rounds
pub compressed_by_256 : (mechanism : Mechanism) (words after w block : List ℕ) → mechanism ≡ ScramSha256 → w ≡ S256.schedule block 48
    → after ≡ S256.add_state words (S256.rounds words w 64)
    → hash_value mechanism after ≡ compressed mechanism (hash_value mechanism words) block
unfolding S256.compress
compressed_by_256 mechanism words after w block is ew ea =
    rw is (ea ∙ ap (λ (s : List ℕ). S256.add_state words (S256.rounds words s 64)) ew)

-- the digest is the bytes of the last hash value
pub digest_of_last : (mechanism : Mechanism) (m : List ℕ) → digest_of mechanism (last_value mechanism m) ≡ hash_by mechanism m
unfolding S1.sha1 S256.sha256
digest_of_last ScramSha1 m = refl
digest_of_last ScramSha256 m = refl

-- the last hash value, once the padded message is read
last_of_padded : (mechanism : Mechanism) (h b m p : List ℕ) → IsAbsorbed mechanism h b (m ++ p)
    → p ≡ 0x80 ∷ replicate ((119 - length m % 64) % 64) 0 ++ to_be_bytes w64 (length m * 8 % 2 ^ 64) → h ≡ last_value mechanism m
last_of_padded ScramSha1 h b m p held ep =
    let e : m ++ p ≡ S1.padded_message m = rw ep refl in
    rw (← e) held.0
last_of_padded ScramSha256 h b m p held ep =
    let e : m ++ p ≡ S256.padded_message m = rw ep refl in
    rw (← e) held.0

-- the digest of a message whose whole blocks before `text` are read, by the last block, which has `text` and the padding
pub absorbed_last : (mechanism : Mechanism) (words after b m text block : List ℕ) (before bits : ℕ)
    → IsReading mechanism words b before m → before ≤ 64 → before % 64 ≡ 0 → length text ≤ 55
    → bits ≡ (before + length text) * 8
    → block ≡ text ++ (0x80 ∷ replicate (55 - length text) 0 ++ to_be_bytes w64 bits) → length block ≡ 64
    → hash_value mechanism after ≡ compressed mechanism (hash_value mechanism words) block
    → digest_of mechanism (hash_value mechanism after) ≡ hash_by mechanism (m ++ text)
absorbed_last mechanism words after b m text block before bits held most whole short eb ek len eh =
    let t : before ≡ length m % 2 ^ 64 = held.total in
    let edge : length m % 64 ≡ 0 = omega arith in
    let read : IsAbsorbed mechanism (compressed mechanism (hash_value mechanism words) block) b (m ++ block) =
    absorbed_fill mechanism (hash_value mechanism words) b b m block block held.absorbed (omega arith) (rw edge refl) in
    let n : length (m ++ text) ≡ length m + length text = length-append m text in
    let zeros : (119 - length (m ++ text) % 64) % 64 ≡ 55 - length text = omega arith in
    let size : length (m ++ text) * 8 % 2 ^ 64 ≡ bits = omega arith in
    let rest : List ℕ = 0x80 ∷ replicate (55 - length text) 0 ++ to_be_bytes w64 bits in
    let joined : m ++ block ≡ (m ++ text) ++ rest = rw ek (sym (append_assoc m text rest)) in
    let last : compressed mechanism (hash_value mechanism words) block ≡ last_value mechanism (m ++ text) =
    last_of_padded mechanism (compressed mechanism (hash_value mechanism words) block) b (m ++ text) rest (rw joined at read)
    (rw (zeros, size) refl) in
    rw (eh, last) (digest_of_last mechanism (m ++ text))

-- the two hash functions write a hash value in the same way
pub digest_bytes_same : (h : List ℕ) (n : ℕ) → S256.digest_bytes h n ≡ S1.digest_bytes h n
unfolding S1.digest_bytes S256.digest_bytes
digest_bytes_same h zero = refl
digest_bytes_same h (suc n) = rw (digest_bytes_same h n) refl

length-digest_bytes : (h : List ℕ) (n : ℕ) → length (S256.digest_bytes h n) ≡ 4 * n
unfolding S256.digest_bytes
length-digest_bytes h zero = refl
length-digest_bytes h (suc n) =
    let word : length (to_be_bytes w32 (slice_index h n)) ≡ 4 = refl in
    omega (
      arith,
      length-digest_bytes h n,
      word,
      length-append (S256.digest_bytes h n) (to_be_bytes w32 (slice_index h n)),
    )

-- a last hash value gives a digest of the mechanism's length
pub length-digest_of : (mechanism : Mechanism) (value : List ℕ) → length (digest_of mechanism value) ≡ digest_len_by mechanism
length-digest_of ScramSha1 value = ap (λ (xs : List ℕ). length xs) (sym (digest_bytes_same value 5)) ∙ length-digest_bytes value 5
length-digest_of ScramSha256 value = length-digest_bytes value 8

-- HMAC is the outer digest of the inner digest
pub hmac_by_parts : (mechanism : Mechanism) (key text inner : List ℕ)
    → inner ≡ hash_by mechanism (inner_block (hash_by mechanism) (block_len_by mechanism) key ++ text)
    → hash_by mechanism (outer_block (hash_by mechanism) (block_len_by mechanism) key ++ inner) ≡ hmac_by mechanism key text
unfolding hmac
hmac_by_parts mechanism key text inner e = rw e refl
