-- Each text is that of exactly one book or has exactly one first fault, and never both: what it is read as says which.
use Rattle.std.proofs.Common.{◌≡◌, ◌⊎◌, inl, inr, Result, Ok, Err, refl, sym, ◌∙◌}
use Rattle.book_format.specs.Book.{BookFields}
use Rattle.book_format.specs.FirstFault.{IsBookFault}
use Rattle.book_format.specs.Laws.{IsBookOrAtFault, BookIsNotAtFault, HasOneBook, HasOneBookFault}
use Rattle.book_format.specs.Trees.{IsBookText}
use Rattle.book_format.specs.inner.Books.{book_in}
use Rattle.book_format.specs.declared.fault.BookFault.{BookFault}
use Rattle.book_format.proofs.lemmas.Steps.{same_ok_has_same_value, same_err_has_same_fault}
use Rattle.book_format.proofs.lemmas.BookTexts.{read_book_text_stands, book_text_is_read, text_fault_is_first, text_first_fault_is_read}

-- the law: a text is that of a book, or it has a first fault
pub is_book_or_at_fault : IsBookOrAtFault
is_book_or_at_fault text = by_reading (book_in text) refl
  where
    by_reading : (read : Result BookFields BookFault) → book_in text ≡ read
        → ((book : BookFields) × IsBookText text book) ⊎ ((fault : BookFault) × IsBookFault text fault)
    by_reading (Ok book) is = inl (book, read_book_text_stands text book is)
    by_reading (Err fault) is = inr (fault, text_fault_is_first text fault is)

-- the law: the text of a book has no first fault
pub book_is_not_at_fault : BookIsNotAtFault
book_is_not_at_fault text book fault is first =
    let both = sym (book_text_is_read text book is) ∙ text_first_fault_is_read text fault first in
    cc both

-- the law: a text is that of at most one book
pub has_one_book : HasOneBook
has_one_book text one other is also = same_ok_has_same_value one other (sym (book_text_is_read text one is) ∙ book_text_is_read text other
    also)

-- the law: a text has at most one first fault
pub has_one_book_fault : HasOneBookFault
has_one_book_fault text one other first also =
    same_err_has_same_fault one other (sym (text_first_fault_is_read text one first) ∙ text_first_fault_is_read text other also)
