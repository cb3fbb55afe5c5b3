-- When a book is saved, and what is true then: a change is saved before the reply is given.
use Rattle.std.specs.Prelude.{ℕ, ◌≡◌, ◌⊎◌, Bool, true, false, List}
use Rattle.std.specs.declared.option.Option.{Option}
use Rattle.std.specs.declared.option.Option.TheVariants.{None, Some}
use Rattle.otp_core.specs.declared.token.reply.Reply.{Reply}
use Rattle.otp_core.specs.declared.token.reply.Reply.TheVariants.{Pass, Fail, Locked}
use Rattle.book_format.specs.Book.{BookFields}
use Rattle.book_format.specs.Trees.{IsBookText}
use Rattle.account_book.specs.Store.{StoreFacts, IsSaved, MayHold}
use Rattle.account_book.specs.AccountAttempt.{AccountAttempt}
use Rattle.account_book.specs.Tokens.{IsBookAfterAttempts}

-- the reply changes the token, so the book is saved before the reply is given
abbrev pub needs_save : Option Reply → Bool
needs_save (Some (Pass counter)) = true
needs_save (Some Fail) = true
needs_save (Some Locked) = false
needs_save None = false

-- the store takes one save, of the text of this book, and holds it; and `IsStored` is true of the text
pub record SavesBook (IsStored : List ℕ → Type 0) (old : StoreFacts) (book : BookFields) (new : StoreFacts) : Type 0 where
  pub text : List ℕ
  pub is_text : IsBookText text book
  pub saved : IsSaved old text new
  pub stored : IsStored text

-- `IsStored` is true of some text of this book
abbrev pub HasStoredText : (IsStored : List ℕ → Type 0) → BookFields → Type 0
HasStoredText IsStored book = (text : List ℕ) × IsBookText text book × IsStored text

-- the store has not failed, and holds a text of the book, of which `IsStored` is true
pub record HoldsBook (IsStored : List ℕ → Type 0) (book : BookFields) (store : StoreFacts) : Type 0 where
  pub working : store.failed ≡ false
  pub saved : IsBookText store.saved book
  pub stored : IsStored store.saved

-- each text that the new store may hold is one that the old store may have held, or one of this book
abbrev pub LeavesOldTextOrBook : (old : StoreFacts) → BookFields → (new : StoreFacts) → Type 0
LeavesOldTextOrBook old book new = (text : List ℕ) → MayHold new text → MayHold old text ⊎ IsBookText text book

-- each text that the store may hold is of a book to which some attempts, the latest of which comes first, lead from this one
abbrev pub HoldsAfterAttempts : (start : BookFields) → StoreFacts → Type 0
HoldsAfterAttempts start store =
    (text : List ℕ) → MayHold store text
    → (left : BookFields) × (latest_first : List AccountAttempt) × IsBookAfterAttempts start latest_first left × IsBookText text left
