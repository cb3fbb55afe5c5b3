-- Laws of books and first faults: each text is that of exactly one book or has exactly one first fault, and never both.
use Rattle.std.specs.Prelude.{ℕ, ◌≡◌, ◌⊎◌, List}
use Rattle.book_format.specs.Book.{BookFields}
use Rattle.book_format.specs.FirstFault.{IsBookFault}
use Rattle.book_format.specs.Trees.{IsBookText}
use Rattle.book_format.specs.declared.fault.BookFault.{BookFault}

-- a text is that of a book, or it has a first fault
abbrev pub IsBookOrAtFault : Type 0
IsBookOrAtFault = (text : List ℕ) → ((book : BookFields) × IsBookText text book) ⊎ ((fault : BookFault) × IsBookFault text fault)

-- the text of a book has no first fault
abbrev pub BookIsNotAtFault : Type 0
BookIsNotAtFault = (text : List ℕ) (book : BookFields) (fault : BookFault) → IsBookText text book → IsBookFault text fault → ⊥

-- a text is that of at most one book
abbrev pub HasOneBook : Type 0
HasOneBook = (text : List ℕ) (one other : BookFields) → IsBookText text one → IsBookText text other → one ≡ other

-- a text has at most one first fault
abbrev pub HasOneBookFault : Type 0
HasOneBookFault = (text : List ℕ) (one other : BookFault) → IsBookFault text one → IsBookFault text other → one ≡ other
