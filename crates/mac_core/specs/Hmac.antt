-- HMAC (RFC 2104, section 2; FIPS 198-1, whose name K0 is used here) over any hash function H. `hash` is H on whole messages, and
-- `block_len` is the length of its blocks in bytes.
use Rattle.std.specs.Prelude.{ℕ, ◌-◌, List, [], ◌++◌, length, map, replicate, bit_xor, nat_lt, if◌then◌else◌}
use Rattle.mac_core.specs.declared.hmac.Mac.{Mac}
use Rattle.mac_core.specs.declared.hmac.Prepared.{Prepared}

-- K0: the key, or its digest if the key is longer than a block, padded with zeros to the length of a block
abbrev pub padded_key : (hash : List ℕ → List ℕ) → (block_len : ℕ) → (key : List ℕ) → List ℕ
padded_key hash block_len key =
    let short = if nat_lt block_len (length key) then hash key else key in
    short ++ replicate (block_len - length short) 0

-- each byte of a block XORed with one byte, as in K0 xor ipad and K0 xor opad
abbrev pub xor_each : (byte : ℕ) → (bytes : List ℕ) → List ℕ
xor_each byte bytes = map (λ x. bit_xor x byte) bytes

-- the byte of ipad
abbrev pub ipad : ℕ
ipad = 0x36

-- the byte of opad
abbrev pub opad : ℕ
opad = 0x5C

-- K0 xor ipad, which the inner hash reads before the text
abbrev pub inner_block : (hash : List ℕ → List ℕ) → (block_len : ℕ) → (key : List ℕ) → List ℕ
inner_block hash block_len key = xor_each ipad (padded_key hash block_len key)

-- K0 xor opad, which the outer hash reads before the inner digest
abbrev pub outer_block : (hash : List ℕ → List ℕ) → (block_len : ℕ) → (key : List ℕ) → List ℕ
outer_block hash block_len key = xor_each opad (padded_key hash block_len key)

-- HMAC(K, t) = H((K0 xor opad) ++ H((K0 xor ipad) ++ t))
unfoldable pub hmac : (hash : List ℕ → List ℕ) → (block_len : ℕ) → (key text : List ℕ) → List ℕ
hmac hash block_len key text =
    hash (outer_block hash block_len key ++ hash (inner_block hash block_len key ++ text))

-- the running MAC is HMAC's state for this key after this text: its inner hash has read K0 xor ipad and the text, its outer hash K0
-- xor opad. `holds` says which message a hasher has read.
pub record IsMacOf {H : Type 0} (holds : H → List ℕ → Type 0) (hash : List ℕ → List ℕ) (block_len : ℕ) (mac : Mac H)
    (key text : List ℕ) : Type 0 where
  pub inner : holds mac.inner (inner_block hash block_len key ++ text)
  pub outer : holds mac.outer (outer_block hash block_len key)

-- the prepared key is a running MAC of that key that has read no text
abbrev pub IsPreparedFor : {H : Type 0} → (holds : H → List ℕ → Type 0) → (hash : List ℕ → List ℕ) → (block_len : ℕ) → Prepared H
    → (key : List ℕ) → Type 0
IsPreparedFor holds hash block_len prepared key = IsMacOf holds hash block_len prepared.empty key []
