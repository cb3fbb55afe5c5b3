-- Which TOML tree is that of a book, and which text.
use Rattle.std.specs.Prelude.{ℕ, ◌≡◌, List, [], ◌∷◌, Option, Some, None}
use Rattle.std.specs.Str.{IsUtf8}
use Rattle.toml.specs.Data.{Members, no_members, member}
use Rattle.toml.specs.Parse.{parse_document}
use Rattle.scram_text.specs.Class.{IsPlainName}
use Rattle.book_format.specs.Account.{AccountFields}
use Rattle.book_format.specs.Book.{BookFields}
use Rattle.book_format.specs.Rows.{IsTable, IsTableIn}
use Rattle.book_format.specs.Tables.{account_table, document_table}

-- the table has these accounts, each at its name, and nothing else; a parsed table has its members in the order of their names, as bytes
abbrev pub AreAccountTrees : Members → List (List ℕ × AccountFields) → Type 0
AreAccountTrees no_members [] = Unit {0}
AreAccountTrees no_members (entry ∷ entries) = ⊥
AreAccountTrees (member name d ms) [] = ⊥
AreAccountTrees (member name d ms) (entry ∷ entries) =
    (name ≡ entry.0) × IsPlainName entry.0 × IsTableIn account_table d entry.1 × AreAccountTrees ms entries

-- the accounts are those of a table, or there are none if the table is missing
abbrev pub AreAccountsOf : Option Members → List (List ℕ × AccountFields) → Type 0
AreAccountsOf None accounts = accounts ≡ []
AreAccountsOf (Some named) accounts = AreAccountTrees named accounts

-- the document is that of this book
pub record IsBookTree (ms : Members) (book : BookFields) : Type 0 where
  pub named : Option Members
  pub top : IsTable document_table ms (record { decoy_key = book.decoy_key; decoy_count = book.decoy_count; accounts = named })
  pub accounts : AreAccountsOf named book.accounts

-- the text is that of the book: it is UTF-8 and a TOML document, and the document's tree is that of the book
pub record IsBookText (bytes : List ℕ) (book : BookFields) : Type 0 where
  pub tree : Members
  pub utf8 : IsUtf8 bytes
  pub parsed : parse_document bytes ≡ Some tree
  pub of_book : IsBookTree tree book
