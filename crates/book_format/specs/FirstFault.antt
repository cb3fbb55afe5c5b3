-- The first fault of a text that is no book: that of the first demand that it does not meet. First come the demands on the document
-- and its own keys, then those on each account, in byte order of their names.
use Rattle.std.specs.Prelude.{ℕ, ◌+◌, ◌==◌, ℤ, pos, negsuc, Bool, false, List, [], ◌∷◌, ◌++◌, map, codes, Option, Some, None, option_and_then}
use Rattle.std.specs.Str.{is_utf8}
use Rattle.toml.specs.Data.{Data, Members, no_members, member, get_member, as_integer, as_table}
use Rattle.toml.specs.Parse.{parse_document}
use Rattle.book_format.specs.Names.{is_plain_name}
use Rattle.book_format.specs.Demands.{Demand, must, if_there, required, HasFirstFault}
use Rattle.book_format.specs.Rows.{table_demands}
use Rattle.book_format.specs.RowKinds.{table_type}
use Rattle.book_format.specs.Tables.{account_table, document_table}
use Rattle.book_format.specs.declared.fault.BookFault.{BookFault}
use Rattle.book_format.specs.declared.fault.BookWhy.{BookWhy}
use Rattle.book_format.specs.declared.fault.BookWhy.TheVariants.{Toml, Format, Name}

-- demands whose faults are in the account of this index, or in none
abbrev pub placed : (place : Option ℕ) → List (Demand BookWhy) → List (Demand BookFault)
placed place demands = map (λ demand. must demand.met (record { why = demand.fault; account = place })) demands

-- there is a value, and it is the number 1
abbrev pub is_one : Option ℤ → Bool
is_one None = false
is_one (Some (pos n)) = n == 1
is_one (Some (negsuc n)) = false

-- the demands on the document's own keys: `format` is 1, and then those of the document's table
unfoldable pub top_demands : Members → List (Demand BookWhy)
top_demands ms = must (is_one (option_and_then as_integer (get_member (codes "format") ms))) Format ∷ table_demands document_table ms

-- the demands on an account at a name: the name is plain, and then those of the account's table
unfoldable pub account_demands : (name : List ℕ) → Data → List (Demand BookWhy)
account_demands name d = must (is_plain_name name) Name ∷ (table_type account_table).demands d

-- the demands on the accounts of a table, account by account, with indexes from this one on
unfoldable pub accounts_demands : (index : ℕ) → Members → List (Demand BookFault)
accounts_demands index no_members = []
accounts_demands index (member name d ms) = placed (Some index) (account_demands name d) ++ accounts_demands (index + 1) ms

-- the demands on a document: those on its own keys, and then those on its accounts
unfoldable pub document_demands : Members → List (Demand BookFault)
document_demands ms =
    placed None (top_demands ms) ++ if_there (accounts_demands 0) (option_and_then as_table (get_member (codes "accounts") ms))

-- the demands on a text: it is UTF-8, it is a TOML document, and then those on the document
unfoldable pub book_demands : List ℕ → List (Demand BookFault)
book_demands bytes = must (is_utf8 bytes) no_toml ∷ required no_toml document_demands (parse_document bytes)
  where
    no_toml : BookFault
    no_toml = record { why = Toml; account = None }

-- the fault is the first of a text: that of the first demand that the text does not meet
abbrev pub IsBookFault : List ℕ → BookFault → Type 0
IsBookFault bytes fault = HasFirstFault (book_demands bytes) fault
