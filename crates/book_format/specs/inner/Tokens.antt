-- How a token is read.
use Rattle.std.specs.Prelude.{ℕ, List, codes, if◌then◌else◌, Result, Ok, Err}
use Rattle.std.specs.Str.{bytes_eq}
use Rattle.toml.specs.Data.{Data, Members, get_member}
use Rattle.otp_core.specs.Ranges.{min_secret_len, max_secret_len, min_digits, max_digits, max_moment}
use Rattle.otp_core.specs.declared.fault.Setting.TheVariants.{Next, LookAhead, SyncAhead, Step, Back, Ahead, MaxDrift, Last, Limit}
use Rattle.otp_core.specs.declared.token.kinds.TokenFields.{TokenFields}
use Rattle.otp_core.specs.declared.token.kinds.TokenFields.TheVariants.{Hotp, Totp}
use Rattle.book_format.specs.Tokens.{hotp_table, totp_table}
use Rattle.book_format.specs.inner.Steps.{◌>>=◌}
use Rattle.book_format.specs.inner.Values.{number_in, setting_in, signed_in, bytes_in, hash_in, text_in, table_of}
use Rattle.book_format.specs.inner.Rows.{◌&◌, Reading, read_or, read_at, read_up_to, read_or_default, read_some, read_table}
use Rattle.book_format.specs.declared.fault.BookWhy.{BookWhy}
use Rattle.book_format.specs.declared.fault.BookWhy.TheVariants.{Key, Token}

-- how the table of a HOTP token is read
abbrev pub hotp_reading : Reading hotp_table
hotp_reading = record {
  rows =
      read_at (codes "secret") (bytes_in Token min_secret_len max_secret_len)
      & read_at (codes "digits") (number_in Token min_digits max_digits)
      & read_at (codes "next") (setting_in Next)
      & read_at (codes "look_ahead") (setting_in LookAhead)
      & read_or_default 0 (codes "sync_ahead") (setting_in SyncAhead)
      & read_at (codes "limit") (setting_in Limit)
      & read_up_to (codes "failures") (number_in Token 0) (codes "limit")
      & tt;
  from_values = λ secret digits next look_ahead sync_ahead limit failures. record {
    secret = secret;
    digits = digits;
    next = next;
    look_ahead = look_ahead;
    sync_ahead = sync_ahead;
    limit = limit;
    failures = failures;
  };
}

-- how the table of a TOTP token is read
abbrev pub totp_reading : Reading totp_table
totp_reading = record {
  rows =
      read_at (codes "hash") hash_in
      & read_at (codes "secret") (bytes_in Token min_secret_len max_secret_len)
      & read_at (codes "digits") (number_in Token min_digits max_digits)
      & read_at (codes "t0") (number_in Token 0 max_moment)
      & read_at (codes "step") (setting_in Step)
      & read_at (codes "back") (setting_in Back)
      & read_at (codes "ahead") (setting_in Ahead)
      & read_at (codes "max_drift") (setting_in MaxDrift)
      & read_some (codes "last") (setting_in Last)
      & read_up_to (codes "drift") (signed_in Token) (codes "max_drift")
      & read_at (codes "limit") (setting_in Limit)
      & read_up_to (codes "failures") (number_in Token 0) (codes "limit")
      & tt;
  from_values = λ hash secret digits t0 step back ahead max_drift last drift limit failures. record {
    hash = hash;
    secret = secret;
    digits = digits;
    t0 = t0;
    step = step;
    back = back;
    ahead = ahead;
    max_drift = max_drift;
    last = last;
    drift = drift;
    limit = limit;
    failures = failures;
  };
}

-- a token of the kind with this name
unfoldable pub token_of_kind : List ℕ → Members → Result TokenFields BookWhy
token_of_kind name ms =
    if bytes_eq name (codes "hotp") then (read_table hotp_table hotp_reading ms >>= λ t. Ok (Hotp t))
    else if bytes_eq name (codes "totp") then (read_table totp_table totp_reading ms >>= λ t. Ok (Totp t))
    else Err Token

-- a token: its kind is read before all else
unfoldable pub token_in : Data → Result TokenFields BookWhy
token_in d = do
  ms ← table_of d
  name ← read_or (Err Key) text_in (get_member (codes "kind") ms)
  token_of_kind name ms
