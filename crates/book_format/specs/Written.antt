-- The tree that the text of a book is written from: the keys of each table in byte order, and bytes as lower-case hexadecimal text.
use Rattle.std.specs.Prelude.{ℕ, false, List, [], ◌∷◌, Some}
use Rattle.toml.specs.Data.{Members, no_members, member, table}
use Rattle.toml.specs.Text.{IsDocumentText}
use Rattle.book_format.specs.Account.{AccountFields}
use Rattle.book_format.specs.Book.{BookFields}
use Rattle.book_format.specs.Rows.{written_table}
use Rattle.book_format.specs.Tables.{account_table, document_table}
use Rattle.book_format.specs.Trees.{IsBookText}

-- the table that accounts are written as, each at its name
unfoldable pub accounts_tree : List (List ℕ × AccountFields) → Members
accounts_tree [] = no_members
accounts_tree (entry ∷ entries) = member entry.0 (table (written_table account_table entry.1)) (accounts_tree entries)

-- the document that a book is written as
unfoldable pub book_tree : BookFields → Members
book_tree b =
    written_table document_table
    (record { decoy_key = b.decoy_key; decoy_count = b.decoy_count; accounts = Some (accounts_tree b.accounts) })

-- the text is one that is written for the book: it is read as the book, and it is the document of the book's tree in the compact style of
-- the crate toml (`false`: it is not pretty)
pub record IsWrittenText (text : List ℕ) (book : BookFields) : Type 0 where
  pub is_text : IsBookText text book
  pub is_document : IsDocumentText false (book_tree book) text
