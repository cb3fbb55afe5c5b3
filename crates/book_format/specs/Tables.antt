-- The tables of the format, except those of tokens. A row has a key, the type and the range of its value, and the field that the
-- value is in; rows are in the order in which they are judged.
use Rattle.std.specs.Prelude.{ℕ, pos, List, [], ◌∷◌, codes, Option}
use Rattle.toml.specs.Data.{integer, Members}
use Rattle.mac_core.specs.Mechanism.{digest_len_by}
use Rattle.mac_core.specs.declared.mechanism.Mechanism.TheVariants.{ScramSha1, ScramSha256}
use Rattle.otp_core.specs.declared.token.kinds.TokenFields.{TokenFields}
use Rattle.scram_text.specs.Limits.{max_salt_len, max_iteration_count}
use Rattle.book_format.specs.Account.{AccountFields}
use Rattle.book_format.specs.ValueTypes.{number_type, bytes_type, name_list_type, any_table_type}
use Rattle.book_format.specs.Rows.{ValueType, Table}
use Rattle.book_format.specs.RowKinds.{row, row_or_default, optional_row, table_type}
use Rattle.book_format.specs.Tokens.{IsToken, token_demands, token_tree}
use Rattle.book_format.specs.declared.account.MechKeys.{MechKeys}
use Rattle.book_format.specs.declared.fault.BookWhy.TheVariants.{Salt, Count, KeyLength}

-- the keys for a mechanism whose digests have `len` bytes, with the salt and the count that they were made with
abbrev pub keys_table : ℕ → Table MechKeys
keys_table len = record {
  marks = [];
  rows =
      row "salt" (bytes_type Salt 1 max_salt_len) (λ m. m.salt)
      ∷ row "count" (number_type Count 1 max_iteration_count) (λ m. m.count)
      ∷ row "stored" (bytes_type KeyLength len len) (λ m. m.keys.stored.items)
      ∷ row "server" (bytes_type KeyLength len len) (λ m. m.keys.server.items)
      ∷ [];
}

-- the keys for SCRAM-SHA-1
abbrev pub sha1_keys_table : Table MechKeys
sha1_keys_table = keys_table (digest_len_by ScramSha1)

-- the keys for SCRAM-SHA-256
abbrev pub sha256_keys_table : Table MechKeys
sha256_keys_table = keys_table (digest_len_by ScramSha256)

-- tokens of either kind
abbrev pub token_type : ValueType TokenFields
token_type = record { Is = IsToken; demands = token_demands; write = token_tree }

-- an account: if `sha1` or `sha256` is missing, it has no keys for that mechanism; if `token` is missing, it has no token
abbrev pub account_table : Table AccountFields
account_table = record {
  marks = [];
  rows =
      optional_row "sha1" (table_type sha1_keys_table) (λ a. a.sha1)
      ∷ optional_row "sha256" (table_type sha256_keys_table) (λ a. a.sha256)
      ∷ row_or_default [] "act_as" name_list_type (λ a. a.act_as)
      ∷ optional_row "token" token_type (λ a. a.token)
      ∷ [];
}

-- the keys of the document itself, with the table of its accounts unread
pub record TopFields : Type 0 where
  pub decoy_key : List ℕ
  pub decoy_count : ℕ
  pub accounts : Option Members

-- the document itself
abbrev pub document_table : Table TopFields
document_table = record {
  marks = (codes "format", integer (pos 1)) ∷ [];
  rows =
      row "decoy_key" (bytes_type KeyLength (digest_len_by ScramSha256) (digest_len_by ScramSha256)) (λ t. t.decoy_key)
      ∷ row "decoy_count" (number_type Count 1 max_iteration_count) (λ t. t.decoy_count)
      ∷ optional_row "accounts" any_table_type (λ t. t.accounts)
      ∷ [];
}
