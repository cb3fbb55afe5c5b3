-- Keys prepared for HMAC (RFC 2104, section 2).
use Rattle.std.specs.Prelude.{ℕ, ◌≡◌, List}
use Rattle.mac_core.specs.Hmac.{inner_block, outer_block}
use Rattle.mac_core.specs.Mechanism.{block_len_by, hash_by}
use Rattle.mac_core.specs.declared.mechanism.Mechanism.{Mechanism}
use Rattle.hmac_midstate.specs.Midstate.{compressed, hash_value, initial_value}
use Rattle.hmac_midstate.specs.declared.prepared.PreparedKey.{PreparedKey}

-- H(1) of each message that begins with this block
abbrev pub value_after : Mechanism → (block : List ℕ) → List ℕ
value_after mechanism block = compressed mechanism (initial_value mechanism) block

-- the prepared key has the hash values after K0 xor ipad and after K0 xor opad of this key
pub record IsPreparedFor (mechanism : Mechanism) (prepared : PreparedKey) (key : List ℕ) : Type 0 where
  pub inner : hash_value mechanism prepared.inner ≡ value_after mechanism (inner_block (hash_by mechanism) (block_len_by mechanism) key)
  pub outer : hash_value mechanism prepared.outer ≡ value_after mechanism (outer_block (hash_by mechanism) (block_len_by mechanism) key)
