use Rattle.std.proofs.Common.{◌≡◌, ◌⊎◌, List, ℕ, Result, Ok, Err, inl, inr, sym, ◌∙◌}
use Rattle.std.specs.Result.{IfOk, IfErr, IsErrAnd}
use Rattle.book_format.specs.Book.{BookFields}
use Rattle.book_format.specs.inner.Books.{book_in}
use Rattle.book_format.specs.inner.Steps.{IsReadOrFault}
use Rattle.book_format.specs.FirstFault.{IsBookFault}
use Rattle.book_format.specs.Trees.{IsBookText}
use Rattle.book_format.specs.declared.fault.BookFault.{BookFault}
use Rattle.book_format.specs.declared.fault.BookWhy.TheVariants.{NoMemory}
use Rattle.book_format.proofs.lemmas.BookTexts.{read_book_text_stands, book_text_is_read, text_fault_is_first, text_first_fault_is_read}
use Rattle.book_format.proofs.lemmas.Steps.{same_err_has_same_fault}
use Rattle.book_format.proofs.contents.Contents.read.Goals as goal

-- if a book was read from some bytes, they are the text of this book
result_book_stands : (bytes : List ℕ) (r : Result BookFields BookFault) → IsReadOrFault (λ b. b) r (book_in bytes)
    → IfOk r (λ book. IsBookText bytes book)
result_book_stands bytes (Ok book) h = read_book_text_stands bytes book h
result_book_stands bytes (Err fault) h = tt

-- if some bytes are the text of a book, what was read from them is this book, or memory ran out
result_is_only_book : (bytes : List ℕ) (r : Result BookFields BookFault) → IsReadOrFault (λ b. b) r (book_in bytes) → (book : BookFields)
    → IsBookText bytes book → (r ≡ Ok book) ⊎ IsErrAnd r (λ f. f.why ≡ NoMemory)
result_is_only_book bytes (Ok other) h book text = inl (sym h ∙ book_text_is_read bytes book text)
result_is_only_book bytes (Err fault) (inl memory) book text = inr memory
result_is_only_book bytes (Err fault) (inr read) book text =
    let both = sym read ∙ book_text_is_read bytes book text in
    absurd (cc both)

-- if reading some bytes gave a fault, it is their first, or memory ran out
result_fault_is_first : (bytes : List ℕ) (r : Result BookFields BookFault) → IsReadOrFault (λ b. b) r (book_in bytes)
    → IfErr r (λ f. (f.why ≡ NoMemory) ⊎ IsBookFault bytes f)
result_fault_is_first bytes (Ok book) h = tt
result_fault_is_first bytes (Err fault) (inl memory) = inl memory
result_fault_is_first bytes (Err fault) (inr read) = inr (text_fault_is_first bytes fault read)

-- if some bytes have a first fault, reading them gave this fault, or memory ran out
result_is_only_fault : (bytes : List ℕ) (r : Result BookFields BookFault) → IsReadOrFault (λ b. b) r (book_in bytes) → (fault : BookFault)
    → IsBookFault bytes fault → IsErrAnd r (λ f. (f.why ≡ NoMemory) ⊎ (f ≡ fault))
result_is_only_fault bytes (Ok book) h fault first =
    let both = sym h ∙ text_first_fault_is_read bytes fault first in
    absurd (cc both)
result_is_only_fault bytes (Err own) (inl memory) fault first = inl memory
result_is_only_fault bytes (Err own) (inr read) fault first =
    inr (same_err_has_same_fault own fault (sym read ∙ text_first_fault_is_read bytes fault first))

pub returns : goal.returns
returns c = record {
  found = result_book_stands c.args.bytes.now c.contents_of.result c.contents_of.ensures;
  every = result_is_only_book c.args.bytes.now c.contents_of.result c.contents_of.ensures;
  first_fault = result_fault_is_first c.args.bytes.now c.contents_of.result c.contents_of.ensures;
  every_fault = result_is_only_fault c.args.bytes.now c.contents_of.result c.contents_of.ensures;
}
