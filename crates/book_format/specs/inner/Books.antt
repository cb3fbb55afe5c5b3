-- How a book's text is read: the text, `format`, the document's keys, then each account.
use Rattle.std.specs.Prelude.{ℕ, ◌+◌, if◌then◌else◌, List, [], ◌∷◌, codes, Option, Some, None, option_map, option_and_then, ok_or, Result, Ok, Err}
use Rattle.std.specs.Str.{is_utf8}
use Rattle.toml.specs.Data.{Data, Members, no_members, member, get_member, as_integer}
use Rattle.toml.specs.View.{table_view}
use Rattle.toml.specs.Parse.{parse_document}
use Rattle.book_format.specs.Account.{AccountFields}
use Rattle.book_format.specs.Book.{BookFields}
use Rattle.book_format.specs.Tables.{account_table, document_table, TopFields}
use Rattle.book_format.specs.FirstFault.{is_one}
use Rattle.book_format.specs.inner.Steps.{◌>>=◌, pass_or}
use Rattle.book_format.specs.inner.Values.{plain_name_of}
use Rattle.book_format.specs.inner.Rows.{read_table, table_in}
use Rattle.book_format.specs.inner.Tables.{account_reading, document_reading}
use Rattle.book_format.specs.declared.read.Top.{Top}
use Rattle.book_format.specs.declared.fault.BookFault.{BookFault}
use Rattle.book_format.specs.declared.fault.BookWhy.{BookWhy}
use Rattle.book_format.specs.declared.fault.BookWhy.TheVariants.{Toml, Format}

-- an account and its name
unfoldable pub named_account_of : List ℕ → Data → Result (List ℕ × AccountFields) BookWhy
named_account_of key d = do
  name ← plain_name_of key
  fields ← table_in account_table account_reading d
  Ok (name, fields)

-- a fault in the account of this index
abbrev pub in_account : {A : Type 0} → ℕ → Result A BookWhy → Result A BookFault
in_account index (Ok x) = Ok x
in_account index (Err why) = Err (record { why = why; account = Some index })

-- a fault in no account
abbrev pub at_top : {A : Type 0} → Result A BookWhy → Result A BookFault
at_top (Ok x) = Ok x
at_top (Err why) = Err (record { why = why; account = None })

-- the accounts of a table, from an index on, each read completely before the next
unfoldable pub accounts_from : ℕ → Members → Result (List (List ℕ × AccountFields)) BookFault
accounts_from index no_members = Ok []
accounts_from index (member key d ms) = do
  entry ← in_account index (named_account_of key d)
  entries ← accounts_from (index + 1) ms
  Ok (entry ∷ entries)

-- the accounts of a table, none if it is missing
abbrev pub accounts_of_table : Option Members → Result (List (List ℕ × AccountFields)) BookFault
accounts_of_table None = Ok []
accounts_of_table (Some ms) = accounts_from 0 ms

-- the document's own keys, as they were read
abbrev pub top_shown : Top → TopFields
top_shown t = record { decoy_key = t.decoy_key; decoy_count = t.decoy_count; accounts = option_map (λ m. table_view m.now) t.accounts }

-- the values of the document's own keys, or the first fault: that of `format` comes before all others
unfoldable pub top_of : Members → Result TopFields BookWhy
top_of ms = do
  format ← pass_or (is_one (option_and_then as_integer (get_member (codes "format") ms))) Format
  read_table document_table document_reading ms

-- the book of a document, or the first fault: those of its own keys come before those of accounts
unfoldable pub book_of : Members → Result BookFields BookFault
book_of ms = do
  top ← at_top (top_of ms)
  accounts ← accounts_of_table top.accounts
  Ok (record { decoy_key = top.decoy_key; decoy_count = top.decoy_count; accounts = accounts })

-- the document that a text is, or Toml if it is not UTF-8 or not a TOML document
unfoldable pub tree_in : List ℕ → Result Members BookWhy
tree_in bytes = if is_utf8 bytes then ok_or (parse_document bytes) Toml else Err Toml

-- the book of a text, or the first fault
unfoldable pub book_in : List ℕ → Result BookFields BookFault
book_in bytes = do
  ms ← at_top (tree_in bytes)
  book_of ms
