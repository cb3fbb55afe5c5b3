use Rattle.std.proofs.Common.{inl, inr}
use Rattle.book_format.specs.inner.Books.{top_shown}
use Rattle.book_format.proofs.lemmas.BookTexts.{tree_fault_is_fault_of_book, top_fault_is_fault_of_book, accounts_fault_is_fault_of_book}
use Rattle.book_format.proofs.lemmas.BookTexts.{parts_are_read_as_book, read_book_is_in_range}
use Rattle.book_format.proofs.read.contents_of.Goals as goal

pub returns-in-Err : goal.returns-in-Err
returns-in-Err c = elim c.in-Err.ensures [
  | inl memory ↦ inl (rw c.at_top.ensures memory)
  | inr read ↦ inr (rw c.at_top.ensures (tree_fault_is_fault_of_book c.args.bytes.now c.in-Err.why read))
]

pub returns-in-Err-top_of : goal.returns-in-Err-top_of
returns-in-Err-top_of c = inr (rw c.at_top-in-Err-top_of.ensures
    (top_fault_is_fault_of_book c.args.bytes.now _ c.in-Err-top_of.why c.in-Ok.ensures c.in-Err-top_of.ensures))

pub invariant_of-result : goal.invariant_of-result
invariant_of-result c =
    let top = top_shown c.in-Ok-top_of.top in
    read_book_is_in_range c.args.bytes.now _ (parts_are_read_as_book c.args.bytes.now _ top c.in-Ok-accounts_of_table.accounts.entries
    c.in-Ok.ensures
    c.in-Ok-top_of.ensures c.in-Ok-accounts_of_table.ensures)

pub returns-in-Ok-accounts_of_table : goal.returns-in-Ok-accounts_of_table
returns-in-Ok-accounts_of_table c =
    let top = top_shown c.in-Ok-top_of.top in
    parts_are_read_as_book c.args.bytes.now _ top c.in-Ok-accounts_of_table.accounts.entries c.in-Ok.ensures c.in-Ok-top_of.ensures
    c.in-Ok-accounts_of_table.ensures

pub returns : goal.returns
returns c =
    let top = top_shown c.in-Ok-top_of.top in
    elim c.in-Err-accounts_of_table.ensures [
      | inl memory ↦ inl memory
      | inr read ↦ inr (accounts_fault_is_fault_of_book c.args.bytes.now _ top c.in-Err-accounts_of_table.fault c.in-Ok.ensures
          c.in-Ok-top_of.ensures read)
    ]
