-- What a call that reads the text of a book returns.
use Rattle.std.specs.Prelude.{ℕ, ◌≡◌, ◌⊎◌, List, Ok, Result, IfOk, IfErr, IsErrAnd}
use Rattle.book_format.specs.Book.{BookFields}
use Rattle.book_format.specs.FirstFault.{IsBookFault}
use Rattle.book_format.specs.Trees.{IsBookText}
use Rattle.book_format.specs.declared.fault.BookFault.{BookFault}
use Rattle.book_format.specs.declared.fault.BookWhy.TheVariants.{NoMemory}

-- what reading some bytes gives: the book of which they are the text, or else their first fault; or, at any point, NoMemory
pub record IsReadAnswered (bytes : List ℕ) (result : Result BookFields BookFault) : Type 0 where
  -- the bytes are the text of the book that is returned
  pub found : IfOk result (λ book. IsBookText bytes book)
  -- if the bytes are the text of a book, this book is returned, or NoMemory
  pub every : (book : BookFields) → IsBookText bytes book → (result ≡ Ok book) ⊎ IsErrAnd result (λ fault. fault.why ≡ NoMemory)
  -- the fault that is returned is the first of the bytes, or NoMemory
  pub first_fault : IfErr result (λ fault. (fault.why ≡ NoMemory) ⊎ IsBookFault bytes fault)
  -- if the bytes have a first fault, it is returned, or NoMemory
  pub every_fault : (first : BookFault) → IsBookFault bytes first
      → IsErrAnd result (λ fault. (fault.why ≡ NoMemory) ⊎ (fault ≡ first))
