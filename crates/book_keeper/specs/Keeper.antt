-- What a keeper of a book does with a change: it is saved before it is reported, and undone if it can't be saved.
use Rattle.std.specs.Prelude.{ℕ, ◌≡◌, Bool, true, false, List}
use Rattle.std.specs.declared.option.Option.{Option}
use Rattle.otp_core.specs.Attempt.{CodeTexts}
use Rattle.otp_core.specs.declared.token.reply.Reply.{Reply}
use Rattle.account_book.specs.{BookFields, IsBookText}
use Rattle.account_book.specs.AccountAttempt.{account_attempt_of}
use Rattle.account_book.specs.SavedBooks.{needs_save, SavesBook}
use Rattle.account_book.specs.Store.{StoreFacts, IsNotSaved}
use Rattle.account_book.specs.Tokens.{IsBookAttempt}
use Rattle.book_keeper.specs.declared.keeper.CodeJudged.{CodeJudged}
use Rattle.book_keeper.specs.declared.keeper.CodeJudged.TheVariants.{Replied, NotSaved}
use Rattle.book_keeper.specs.declared.keeper.SaveFault.{SaveFault}
use Rattle.book_keeper.specs.declared.keeper.SaveFault.TheVariants as fault

-- the store fails in a save of the text of this book, or had failed before
pub record FailsToSave (old_store : StoreFacts) (book : BookFields) (new_store : StoreFacts) : Type 0 where
  pub text : List ℕ
  pub is_text : IsBookText text book
  pub lost : IsNotSaved old_store text new_store

-- why a book is not saved: its save failed; or memory ran out, and the store was not asked
abbrev pub IsUnsaved : (old_store : StoreFacts) → BookFields → SaveFault → (new_store : StoreFacts) → Type 0
IsUnsaved old_store book fault.NotSaved new_store = FailsToSave old_store book new_store
IsUnsaved old_store book fault.NoMemory new_store = new_store ≡ old_store

-- why a change of a book is not saved: some book with this change is not saved
abbrev pub IsChangeUnsaved : (Changes : BookFields → BookFields → Type 0) → (old_book : BookFields) → (old_store : StoreFacts)
    → SaveFault → (new_store : StoreFacts) → Type 0
IsChangeUnsaved Changes old_book old_store why new_store =
    (next : BookFields) × Changes old_book next × IsUnsaved old_store next why new_store

-- if a save is due, the store saves the new book; else the book and the store stay as they were
abbrev pub IsSavedIfDue : (IsStored : List ℕ → Type 0) → (is_due : Bool) → (old_book : BookFields) → (old_store : StoreFacts)
    → (new_book : BookFields) → (new_store : StoreFacts) → Type 0
IsSavedIfDue IsStored true old_book old_store new_book new_store = SavesBook IsStored old_store new_book new_store
IsSavedIfDue IsStored false old_book old_store new_book new_store = (new_book ≡ old_book) × (new_store ≡ old_store)

-- a reply that needs a save is due to an attempt, which makes the old book the new one
abbrev pub IsSavingReplyDue : (name : List ℕ) → (moment : ℕ) → CodeTexts → (old new : BookFields) → Type 0
IsSavingReplyDue name moment sent old new =
    (reply : Option Reply) × (needs_save reply ≡ true) × IsBookAttempt old (account_attempt_of name moment sent reply) new

-- some reply that is due to this attempt needs a save
abbrev pub IsToBeSaved : BookFields → (name : List ℕ) → (moment : ℕ) → CodeTexts → Type 0
IsToBeSaved old name moment sent = (next : BookFields) × IsSavingReplyDue name moment sent old next

-- what becomes of a code: a reply that is due and kept; or the store failed to save the book with the reply that was due
abbrev pub IsCodeJudged : (IsStored : List ℕ → Type 0) → (old_book : BookFields) → (old_store : StoreFacts) → (name : List ℕ)
    → (moment : ℕ) → CodeTexts → CodeJudged → (new_book : BookFields) → (new_store : StoreFacts) → Type 0
IsCodeJudged IsStored old_book old_store name moment sent (Replied reply) new_book new_store =
    IsBookAttempt old_book (account_attempt_of name moment sent reply) new_book
    × IsSavedIfDue IsStored (needs_save reply) old_book old_store new_book new_store
IsCodeJudged IsStored old_book old_store name moment sent NotSaved new_book new_store =
    (new_book ≡ old_book)
    × IsChangeUnsaved (IsSavingReplyDue name moment sent) old_book old_store fault.NotSaved new_store
