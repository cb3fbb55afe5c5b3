-- How the tables of the format are read, except those of tokens.
use Rattle.std.specs.Prelude.{ℕ, [], codes}
use Rattle.mac_core.specs.Mechanism.{digest_len_by}
use Rattle.mac_core.specs.declared.mechanism.Mechanism.TheVariants.{ScramSha1, ScramSha256}
use Rattle.scram_text.specs.Limits.{max_salt_len, max_iteration_count}
use Rattle.book_format.specs.Tables.{keys_table, sha1_keys_table, sha256_keys_table, account_table, document_table}
use Rattle.book_format.specs.inner.Values.{number_in, bytes_in, name_list_in, table_of}
use Rattle.book_format.specs.inner.Rows.{◌&◌, Reading, read_at, read_or_default, read_some, table_in}
use Rattle.book_format.specs.inner.Tokens.{token_in}
use Rattle.book_format.specs.declared.fault.BookWhy.TheVariants.{Salt, Count, KeyLength}

-- how the table of a mechanism's keys is read
abbrev pub keys_reading : (len : ℕ) → Reading (keys_table len)
keys_reading len = record {
  rows =
      read_at (codes "salt") (bytes_in Salt 1 max_salt_len)
      & read_at (codes "count") (number_in Count 1 max_iteration_count)
      & read_at (codes "stored") (bytes_in KeyLength len len)
      & read_at (codes "server") (bytes_in KeyLength len len)
      & tt;
  from_values = λ salt count stored server.
      record { salt = salt; count = count; keys = record { stored = record { items = stored }; server = record { items = server } } };
}

-- how the table of an account is read
abbrev pub account_reading : Reading account_table
account_reading = record {
  rows =
      read_some (codes "sha1") (table_in sha1_keys_table (keys_reading (digest_len_by ScramSha1)))
      & read_some (codes "sha256") (table_in sha256_keys_table (keys_reading (digest_len_by ScramSha256)))
      & read_or_default [] (codes "act_as") name_list_in
      & read_some (codes "token") token_in
      & tt;
  from_values = λ sha1 sha256 act_as token. record { sha1 = sha1; sha256 = sha256; act_as = act_as; token = token };
}

-- how the document's own keys are read
abbrev pub document_reading : Reading document_table
document_reading = record {
  rows =
      read_at (codes "decoy_key") (bytes_in KeyLength (digest_len_by ScramSha256) (digest_len_by ScramSha256))
      & read_at (codes "decoy_count") (number_in Count 1 max_iteration_count)
      & read_some (codes "accounts") table_of
      & tt;
  from_values = λ decoy_key decoy_count accounts. record { decoy_key = decoy_key; decoy_count = decoy_count; accounts = accounts };
}
