-- A book is read from its document and from no other table; any other is refused for the first demand that it does not meet.
use Rattle.std.proofs.Common.{◌≡◌, ◌==◌, pos, negsuc, ℕ, List, codes, true, Option, Some, None, Ok, refl, ap, subst, ◌∙◌, arith}
use Rattle.std.specs.Option.{option_and_then}
use Rattle.std.proofs.lemmas.Bool.Decides.{nat_tests}
use Rattle.toml.specs.Data.{Data, integer, Members, get_member, as_integer, as_table}
use Rattle.book_format.specs.Book.{BookFields}
use Rattle.book_format.specs.ValueTypes.{any_table_type}
use Rattle.book_format.specs.inner.Books.{at_top, accounts_of_table, top_of, book_of}
use Rattle.book_format.specs.FirstFault.{is_one, placed, top_demands, document_demands}
use Rattle.book_format.specs.inner.Steps.{pass_or}
use Rattle.book_format.specs.Rows.{IsTable, table_demands}
use Rattle.book_format.specs.RowKinds.{HasSome}
use Rattle.book_format.specs.inner.Rows.{read_table}
use Rattle.book_format.specs.inner.Tables.{document_reading}
use Rattle.book_format.specs.Tables.{document_table, TopFields}
use Rattle.book_format.specs.Trees.{IsBookTree}
use Rattle.book_format.specs.declared.fault.BookWhy.TheVariants.{Format}
use Rattle.book_format.proofs.lemmas.Demands.{FollowsDemands, both_follow, test_follows, making_keeps_faults}
use Rattle.book_format.proofs.lemmas.Steps.{each_step_gives_value, test_was_passed, same_ok_has_same_value}
use Rattle.book_format.proofs.lemmas.ValueTypes.{number_is_exact, bytes_are_exact, any_table_is_exact}
use Rattle.book_format.proofs.lemmas.Rows.{IsExactTable, read_table_stands, table_is_read, table_follows}
use Rattle.book_format.proofs.lemmas.RowKinds.{row_is_exact, optional_is_exact}
use Rattle.book_format.proofs.lemmas.FaultPlaces.{at_top_keeps_value, at_top_follows}
use Rattle.book_format.proofs.lemmas.AccountTables.{read_optional_accounts_stand, optional_accounts_are_read, optional_accounts_follow}

-- the table of the document's own keys is read exactly
document_is_exact : IsExactTable document_table document_reading
document_is_exact = record {
  gives = λ vs. refl;
  keeps = λ t. refl;
  rows = search (row_is_exact, optional_is_exact, bytes_are_exact, number_is_exact, any_table_is_exact) parts 8;
}

-- a value that is read as the number 1 is that number
value_is_one : (o : Option Data) → is_one (option_and_then as_integer o) ≡ true → o ≡ Some (integer (pos 1))
value_is_one None h = absurd (cc h)
value_is_one (Some (integer (pos n))) h = ap (λ n. Some (integer (pos n))) (is_one_number n h)
  where
    is_one_number : (n : ℕ) → (n == 1) ≡ true → n ≡ 1
    is_one_number n h = grind (arith, nat_tests)
value_is_one (Some (integer (negsuc n))) h = absurd (cc h)
value_is_one (Some d) h = absurd (cc h)

-- if the document's own keys are read from a table, it is the table of their values
read_top_stands : (ms : Members) (top : TopFields) → top_of ms ≡ Ok top → IsTable document_table ms top
unfolding top_of
read_top_stands ms top h =
    let (u, format, read) = each_step_gives_value (pass_or (is_one (option_and_then as_integer (get_member (codes "format") ms))) Format) _
    top h in
    let is_format = value_is_one (get_member (codes "format") ms) (test_was_passed _ Format u format) in
    read_table_stands document_table document_reading document_is_exact ms top (is_format, tt) read

-- the tree from which a book is read is that of the book
pub read_book_tree_stands : (ms : Members) (book : BookFields) → book_of ms ≡ Ok book → IsBookTree ms book
unfolding book_of
read_book_tree_stands ms book h =
    let (top, top_read, h0) = each_step_gives_value (at_top (top_of ms)) _ book h in
    let (entries, entries_read, h1) = each_step_gives_value (accounts_of_table top.accounts) _ book h0 in
    subst (λ b. IsBookTree ms b) (same_ok_has_same_value _ book h1) (record {
      named = top.accounts;
      top = read_top_stands ms top (at_top_keeps_value (top_of ms) top top_read);
      accounts = read_optional_accounts_stand top.accounts entries entries_read;
    })

-- the tree of a book is read as that book
pub book_tree_is_read : (ms : Members) (book : BookFields) → IsBookTree ms book → book_of ms ≡ Ok book
unfolding book_of top_of
book_tree_is_read ms book h =
    rw (
      h.top.marks.0,
      table_is_read document_table document_reading document_is_exact ms _ h.top,
      optional_accounts_are_read h.named book.accounts h.accounts,
    )
    refl

-- reading the document's own keys follows the demands on them
top_follows : (ms : Members) → FollowsDemands (top_demands ms) (top_of ms)
unfolding top_demands top_of
top_follows ms =
    test_follows (is_one (option_and_then as_integer (get_member (codes "format") ms))) Format (table_demands document_table ms)
    (λ u. read_table document_table document_reading ms) (λ is. table_follows document_table document_reading document_is_exact ms)

-- an optional table is what is at its key
optional_table_is_there : (key : List ℕ) (ms : Members) (o : Option Members) → HasSome key any_table_type ms o
    → option_and_then as_table (get_member key ms) ≡ o
optional_table_is_there key ms None h = rw h refl
optional_table_is_there key ms (Some m) h = rw (h.1, h.2) refl

-- reading a document as a book follows the demands on it
pub book_follows : (ms : Members) → FollowsDemands (document_demands ms) (book_of ms)
unfolding document_demands book_of
book_follows ms = both_follow (placed None (top_demands ms)) _ (at_top (top_of ms)) _
    (at_top_follows (top_demands ms) (top_of ms) (top_follows ms))
    (λ top is.
    let named = optional_table_is_there (codes "accounts") ms top.accounts (read_top_stands ms top
    (at_top_keeps_value (top_of ms) top is)).rows.1.1.0 in
    rw named (optional_accounts_follow top.accounts ∙ making_keeps_faults (accounts_of_table top.accounts) _))
