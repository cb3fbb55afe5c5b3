-- The text of a whole book, from its parts.
use Rattle.std.proofs.Common.{◌≡◌, ℕ, Bool, true, false, if◌then◌else◌, List, ◌∷◌, Option, Some, None, ok_or, Ok, Err, refl, inl, inr}
use Rattle.std.proofs.lemmas.Str.{IsUtf8-from_is_utf8, is_utf8-from_IsUtf8}
use Rattle.std.proofs.lemmas.Bool.{cases_Bool}
use Rattle.std.specs.Str.{IsUtf8, is_utf8}
use Rattle.toml.specs.Data.{Members}
use Rattle.toml.specs.Parse.{parse_document}
use Rattle.book_format.specs.Account.{AccountFields}
use Rattle.book_format.specs.Book.{BookFields, IsBook}
use Rattle.book_format.specs.Tables.{TopFields}
use Rattle.book_format.specs.inner.Books.{at_top, tree_in, top_of, accounts_of_table, book_of, book_in}
use Rattle.book_format.specs.inner.Steps.{◌>>=◌}
use Rattle.book_format.specs.Demands.{must, required}
use Rattle.book_format.specs.FirstFault.{document_demands, book_demands, IsBookFault}
use Rattle.book_format.specs.Trees.{IsBookText}
use Rattle.book_format.specs.declared.fault.BookFault.{BookFault}
use Rattle.book_format.specs.declared.fault.BookWhy.{BookWhy}
use Rattle.book_format.specs.declared.fault.BookWhy.TheVariants.{Toml}
use Rattle.book_format.proofs.lemmas.Documents.{book_tree_is_read, read_book_tree_stands, book_follows}
use Rattle.book_format.proofs.lemmas.ReadRanges.{book_is_in_range}
use Rattle.book_format.proofs.lemmas.FaultPlaces.{at_top_keeps_value}
use Rattle.book_format.proofs.lemmas.Demands.{FollowsDemands, read_fault_is_first, first_fault_is_read}
use Rattle.book_format.proofs.lemmas.Steps.{each_step_gives_value, option_holds_value}

-- a text that has no tree is read as no book, for the tree's reason and with no account named
pub tree_fault_is_fault_of_book : (bytes : List ℕ) (why : BookWhy) → tree_in bytes ≡ Err why
    → book_in bytes ≡ Err (record { why = why; account = None })
unfolding book_in
tree_fault_is_fault_of_book bytes why h = rw h refl

-- a text whose top table is refused is read as no book, for that reason and with no account named
pub top_fault_is_fault_of_book : (bytes : List ℕ) (ms : Members) (why : BookWhy) → tree_in bytes ≡ Ok ms → Err why ≡ top_of ms
    → book_in bytes ≡ Err (record { why = why; account = None })
unfolding book_in book_of
top_fault_is_fault_of_book bytes ms why read h = rw (read, ← h) refl

-- a text whose accounts are refused is read as no book, with their fault
pub accounts_fault_is_fault_of_book : (bytes : List ℕ) (ms : Members) (top : TopFields) (fault : BookFault) → tree_in bytes ≡ Ok ms
    → Ok top ≡ top_of ms → accounts_of_table top.accounts ≡ Err fault → book_in bytes ≡ Err fault
unfolding book_in book_of
accounts_fault_is_fault_of_book bytes ms top fault read h accounts = rw (read, ← h, accounts) refl

-- a text whose top table and accounts are read is read as the book of both
pub parts_are_read_as_book : (bytes : List ℕ) (ms : Members) (top : TopFields) (entries : List (List ℕ × AccountFields))
    → tree_in bytes ≡ Ok ms → Ok top ≡ top_of ms → accounts_of_table top.accounts ≡ Ok entries
    → book_in bytes ≡ Ok (record { decoy_key = top.decoy_key; decoy_count = top.decoy_count; accounts = entries })
unfolding book_in book_of
parts_are_read_as_book bytes ms top entries read h accounts = rw (read, ← h, accounts) refl

-- if a document is read from a text, the text is UTF-8, and the parser gives this document
read_document_stands : (bytes : List ℕ) (ms : Members) → tree_in bytes ≡ Ok ms → IsUtf8 bytes × (parse_document bytes ≡ Some ms)
unfolding tree_in
read_document_stands bytes ms h = elim (cases_Bool (is_utf8 bytes)) [
  | inl is ↦ (IsUtf8-from_is_utf8 bytes is, option_holds_value (parse_document bytes) Toml ms (rw is at h))
  | inr not ↦
      let none = rw not at h in absurd (cc none)
]

-- if a book is read from a text, the text is that of the book
pub read_book_text_stands : (bytes : List ℕ) (book : BookFields) → book_in bytes ≡ Ok book → IsBookText bytes book
unfolding book_in
read_book_text_stands bytes book h =
    let (ms, tree, rest) = each_step_gives_value _ book_of book h in
    let (utf8, parsed) = read_document_stands bytes ms (at_top_keeps_value (tree_in bytes) ms tree) in
    record { tree = ms; utf8 = utf8; parsed = parsed; of_book = read_book_tree_stands ms book rest }

-- the text of a book is read as that book
pub book_text_is_read : (bytes : List ℕ) (book : BookFields) → IsBookText bytes book → book_in bytes ≡ Ok book
unfolding book_in tree_in
book_text_is_read bytes book h = rw (is_utf8-from_IsUtf8 bytes h.utf8, h.parsed) (book_tree_is_read h.tree book h.of_book)

-- reading a text follows the demands on it
text_follows : (bytes : List ℕ) → FollowsDemands (book_demands bytes) (book_in bytes)
unfolding book_demands book_in tree_in
text_follows bytes = follows (is_utf8 bytes) (parse_document bytes)
  where
    no_toml : BookFault
    no_toml = record { why = Toml; account = None }

    follows : (utf8 : Bool) (parsed : Option Members) → FollowsDemands (must utf8 no_toml ∷ required no_toml document_demands parsed)
        (at_top (if utf8 then ok_or parsed Toml else Err Toml) >>= book_of)
    follows true None = refl
    follows true (Some ms) = book_follows ms
    follows false parsed = refl

-- the fault for which a text is refused is its first
pub text_fault_is_first : (bytes : List ℕ) (fault : BookFault) → book_in bytes ≡ Err fault → IsBookFault bytes fault
text_fault_is_first bytes fault h = read_fault_is_first (book_demands bytes) fault (book_in bytes) (text_follows bytes) h

-- a text is refused for its first fault
pub text_first_fault_is_read : (bytes : List ℕ) (fault : BookFault) → IsBookFault bytes fault → book_in bytes ≡ Err fault
text_first_fault_is_read bytes fault first = first_fault_is_read (book_demands bytes) fault (book_in bytes) (text_follows bytes) first

-- a book that is read from a text is in its ranges
pub read_book_is_in_range : (bytes : List ℕ) (book : BookFields) → book_in bytes ≡ Ok book → IsBook book
read_book_is_in_range bytes book h =
    let text = read_book_text_stands bytes book h in
    book_is_in_range text.tree book text.of_book
