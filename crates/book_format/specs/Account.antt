-- What a book keeps of an account, and its ranges.
use Rattle.std.specs.Prelude.{ℕ, ◌≤◌, ◌≡◌, List, length, Option}
use Rattle.std.specs.Option.{ForSome}
use Rattle.mac_core.specs.Mechanism.{digest_len_by}
use Rattle.mac_core.specs.declared.mechanism.Mechanism.TheVariants.{ScramSha1, ScramSha256}
use Rattle.otp_core.specs.declared.token.kinds.TokenFields.{TokenFields}
use Rattle.scram_text.specs.Base64Field.{IsField}
use Rattle.scram_text.specs.Limits.{max_salt_len}
use Rattle.scram_text.specs.Parts.{IsCount}
use Rattle.book_format.specs.declared.account.MechKeys.{MechKeys}

-- the most other names that an account may act as
abbrev pub max_names : ℕ
max_names = 16

-- an account: the keys of each mechanism, the other names that it may act as, and its token
pub record AccountFields : Type 0 where
  pub sha1 : Option MechKeys
  pub sha256 : Option MechKeys
  pub act_as : List (List ℕ)
  pub token : Option TokenFields

-- StoredKey and ServerKey have `len` bytes each, and a challenge can have this salt and this iteration count
pub record AreKeys (len : ℕ) (keys : MechKeys) : Type 0 where
  pub salt : IsField max_salt_len keys.salt
  pub count : IsCount keys.count
  pub stored : length keys.keys.stored.items ≡ len
  pub server : length keys.keys.server.items ≡ len

-- an account is in its ranges; names and tokens have ranges of their own
pub record IsAccount (account : AccountFields) : Type 0 where
  pub sha1 : ForSome account.sha1 (AreKeys (digest_len_by ScramSha1))
  pub sha256 : ForSome account.sha256 (AreKeys (digest_len_by ScramSha256))
  pub names : length account.act_as ≤ max_names
