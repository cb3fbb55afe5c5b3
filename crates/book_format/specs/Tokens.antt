-- The tables of tokens, of either kind. Rows are in the order in which they are judged.
use Rattle.std.specs.Prelude.{ℕ, ◌||◌, List, [], ◌∷◌, codes, if◌then◌else◌, option_and_then}
use Rattle.std.specs.Str.{bytes_eq}
use Rattle.toml.specs.Data.{Data, string, table, Members, get_member, as_str, as_table}
use Rattle.otp_core.specs.Ranges.{min_secret_len, max_secret_len, min_digits, max_digits, max_moment}
use Rattle.otp_core.specs.declared.fault.Setting.TheVariants.{Next, LookAhead, SyncAhead, Step, Back, Ahead, MaxDrift, Last, Limit}
use Rattle.otp_core.specs.declared.token.kinds.TokenFields.{TokenFields}
use Rattle.otp_core.specs.declared.token.kinds.TokenFields.TheVariants.{Hotp, Totp}
use Rattle.otp_core.specs.declared.token.kinds.HotpFields.{HotpFields}
use Rattle.otp_core.specs.declared.token.kinds.TotpFields.{TotpFields}
use Rattle.book_format.specs.Demands.{Demand, must, required}
use Rattle.book_format.specs.ValueTypes.{number_type, setting_type, signed_type, bytes_type, hash_type}
use Rattle.book_format.specs.Rows.{Table, IsTableIn, table_demands, written_table}
use Rattle.book_format.specs.RowKinds.{row, row_up_to, row_or_default, optional_row}
use Rattle.book_format.specs.declared.fault.BookWhy.{BookWhy}
use Rattle.book_format.specs.declared.fault.BookWhy.TheVariants.{Key, Token}

-- a HOTP token
abbrev pub hotp_table : Table HotpFields
hotp_table = record {
  marks = (codes "kind", string (codes "hotp")) ∷ [];
  rows =
      row "secret" (bytes_type Token min_secret_len max_secret_len) (λ t. t.secret)
      ∷ row "digits" (number_type Token min_digits max_digits) (λ t. t.digits)
      ∷ row "next" (setting_type Next) (λ t. t.next)
      ∷ row "look_ahead" (setting_type LookAhead) (λ t. t.look_ahead)
      ∷ row_or_default 0 "sync_ahead" (setting_type SyncAhead) (λ t. t.sync_ahead)
      ∷ row "limit" (setting_type Limit) (λ t. t.limit)
      ∷ row_up_to "failures" (number_type Token 0) "limit" (λ t. t.failures)
      ∷ [];
}

-- a TOTP token
abbrev pub totp_table : Table TotpFields
totp_table = record {
  marks = (codes "kind", string (codes "totp")) ∷ [];
  rows =
      row "hash" hash_type (λ t. t.hash)
      ∷ row "secret" (bytes_type Token min_secret_len max_secret_len) (λ t. t.secret)
      ∷ row "digits" (number_type Token min_digits max_digits) (λ t. t.digits)
      ∷ row "t0" (number_type Token 0 max_moment) (λ t. t.t0)
      ∷ row "step" (setting_type Step) (λ t. t.step)
      ∷ row "back" (setting_type Back) (λ t. t.back)
      ∷ row "ahead" (setting_type Ahead) (λ t. t.ahead)
      ∷ row "max_drift" (setting_type MaxDrift) (λ t. t.max_drift)
      ∷ optional_row "last" (setting_type Last) (λ t. t.last)
      ∷ row_up_to "drift" (signed_type Token) "max_drift" (λ t. t.drift)
      ∷ row "limit" (setting_type Limit) (λ t. t.limit)
      ∷ row_up_to "failures" (number_type Token 0) "limit" (λ t. t.failures)
      ∷ [];
}

-- the TOML value is the table of this token, of either kind
abbrev pub IsToken : Data → TokenFields → Type 0
IsToken d (Hotp t) = IsTableIn hotp_table d t
IsToken d (Totp t) = IsTableIn totp_table d t

-- the demands on a token's table whose kind has this name: the name is that of a kind, and then those of this kind
abbrev pub kind_demands : (name : List ℕ) → Members → List (Demand BookWhy)
kind_demands name ms =
    must (bytes_eq name (codes "hotp") || bytes_eq name (codes "totp")) Token
    ∷ (if bytes_eq name (codes "hotp") then table_demands hotp_table ms else table_demands totp_table ms)

-- the demands on a value that is to be a token: it is a table, its `kind` is there and a text, and then those of its kind
unfoldable pub token_demands : Data → List (Demand BookWhy)
token_demands d =
    required Key (λ ms. required Key (λ name. kind_demands name ms) (option_and_then as_str (get_member (codes "kind") ms))) (as_table d)

-- the table that a token is written as
abbrev pub token_tree : TokenFields → Data
token_tree (Hotp t) = table (written_table hotp_table t)
token_tree (Totp t) = table (written_table totp_table t)
