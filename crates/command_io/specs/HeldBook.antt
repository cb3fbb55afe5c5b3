-- What becomes of a held book and of its store.
use Rattle.std.specs.Prelude.{ℕ, ◌≡◌, ◌⊎◌, true, List, string_bytes, Option, is_some, None, Some, MatchOption}
use Rattle.otp_core.specs.Attempt.{CodeTexts}
use Rattle.otp_core.specs.declared.token.reply.Reply.{Reply}
use Rattle.book_format.specs.Account.{AccountFields}
use Rattle.book_format.specs.Book.{BookFields}
use Rattle.book_format.specs.FirstFault.{IsBookFault}
use Rattle.book_format.specs.Trees.{IsBookText}
use Rattle.book_format.specs.declared.fault.BookFault.{BookFault}
use Rattle.account_book.specs.AccountAttempt.{account_attempt_of}
use Rattle.account_book.specs.Accounts.{IsAdded}
use Rattle.account_book.specs.Enrolled.{enrolled}
use Rattle.account_book.specs.SavedBooks.{needs_save, SavesBook, HoldsBook}
use Rattle.account_book.specs.Store.{StoreFacts}
use Rattle.account_book.specs.Tokens.{IsUnlocked, IsBookAttempt, token_at}
use Rattle.book_keeper.specs.Keeper.{IsChangeUnsaved, IsSavedIfDue, IsSavingReplyDue}
use Rattle.book_keeper.specs.declared.keeper.Keeper.{Keeper}
use Rattle.book_keeper.specs.declared.keeper.SaveFault.TheVariants.{NotSaved}
use Rattle.book_file.specs.Text.{IsRead}
use Rattle.command_line.specs.Fault.{fault_of_book}
use Rattle.command_line.specs.declared.fault.Fault.{Fault}
use Rattle.command_line.specs.declared.fault.Fault.TheVariants.{NoSuchAccount, NoToken, CannotRead, CannotWrite, NoMemory}
use Rattle.command_io.specs.File.{IsFileUnwrittenOrNoMemory}
use Rattle.command_io.specs.declared.new_account.NewAccount.{NewAccount}
use Rattle.command_io.specs.declared.new_account.Salts.{Salts}

-- what is known of a held book: the book, and the facts of its store
pub record HeldFacts : Type 0 where
  pub book : BookFields
  pub store : StoreFacts

-- what is known of this held book
abbrev pub held_shown : {S : Type 0} → (S → StoreFacts) → Keeper S → HeldFacts
held_shown facts held = record { book = held.book; store = facts held.store }

-- the store of a held book has not failed, and holds a text of the book, wherever that text is from
abbrev pub HoldsItsBook : HeldFacts → Type 0
HoldsItsBook held = HoldsBook (λ text. Unit {0}) held.book held.store

-- the store after a change that fails: if the fault is that the book's file can't be written, it fails to save some book with the change;
-- after any other fault it is as it was
abbrev pub IsStoreAfterFault : (old : HeldFacts) → (Changes : BookFields → BookFields → Type 0) → Fault → (new : StoreFacts) → Type 0
IsStoreAfterFault old Changes (CannotWrite file) new = IsChangeUnsaved Changes old.book old.store NotSaved new
IsStoreAfterFault old Changes fault new = new ≡ old.store

-- a held book is not changed, and this is the fault
abbrev pub FailsToChange : (old : HeldFacts) → (Changes : BookFields → BookFields → Type 0) → Fault → (new : HeldFacts) → Type 0
FailsToChange old Changes fault new = (new.book ≡ old.book) × IsStoreAfterFault old Changes fault new.store

-- a text was read from a file and is not a book: the fault is that of its first fault
abbrev pub IsFaultOfText : {File : Type 0} → (bytes_of : File → Option (List ℕ)) → Fault → Type 0
IsFaultOfText bytes_of fault =
    (text : List ℕ) × (found : BookFault) × IsRead bytes_of text × IsBookFault text found × (fault ≡ fault_of_book found)

-- the fault of a book that can't be held: the file of this path can't be read; or a file, whose path is not said here, can't be written;
-- or memory ran out
abbrev pub CannotHoldOrNoMemory : (path : List ℕ) → Fault → Type 0
CannotHoldOrNoMemory path (CannotRead file) = string_bytes file ≡ path
CannotHoldOrNoMemory path (CannotWrite file) = Unit {0}
CannotHoldOrNoMemory path fault = fault ≡ NoMemory

-- the fault of a book that can't be held or read: it can't be held, the bytes that were read from a file are not a book, or memory ran out
abbrev pub CannotOpenBook : {File : Type 0} → (bytes_of : File → Option (List ℕ)) → (path : List ℕ) → Fault → Type 0
CannotOpenBook bytes_of path fault = CannotHoldOrNoMemory path fault ⊎ IsFaultOfText bytes_of fault

-- the account that was looked up is not there, or has no token: the fault says which
abbrev pub LacksToken : Option AccountFields → Fault → Type 0
LacksToken found fault = MatchOption found (fault ≡ NoSuchAccount) (λ account. (fault ≡ NoToken) × (account.token ≡ None))

-- the fault of a change to the token of the account that was looked up, in the book whose file has this path:
-- there is no account, it has no token, the book can't be saved, or memory ran out
abbrev pub IsTokenFault : (path : List ℕ) → (found : Option AccountFields) → Fault → Type 0
IsTokenFault path found fault = MatchOption found (fault ≡ NoSuchAccount)
    (λ account. MatchOption account.token (fault ≡ NoToken) (λ token. IsFileUnwrittenOrNoMemory path fault))

-- the account with this name has a token, whose failures are 0 after the change; nothing else is changed
abbrev pub IsTokenUnlocked : (name : List ℕ) → (old new : BookFields) → Type 0
IsTokenUnlocked name old new = (is_some (token_at old name) ≡ true) × IsUnlocked old name new

-- an account with the keys of a password, under a name that had none, is added
abbrev pub IsEnrolled : NewAccount → Salts → (old new : BookFields) → Type 0
IsEnrolled account salts old new =
    IsAdded old account.name (enrolled account.password salts.sha1 salts.sha256 account.count) new

-- the reply is due, and the book after it is saved if the reply needs that; else the book and the store are as they were
pub record IsReplySaved (IsStored : List ℕ → Type 0) (old : HeldFacts) (name : List ℕ) (moment : ℕ) (sent : CodeTexts) (reply : Reply)
    (new : HeldFacts) : Type 0 where
  pub due : IsBookAttempt old.book (account_attempt_of name moment sent (Some reply)) new.book
  pub kept : IsSavedIfDue IsStored (needs_save (Some reply)) old.book old.store new.book new.store

-- a reply is not saved, and this is the fault: only a reply that was due can fail to be saved
abbrev pub IsReplyUnsaved : (old : HeldFacts) → (name : List ℕ) → (moment : ℕ) → CodeTexts → Fault → (new : HeldFacts) → Type 0
IsReplyUnsaved old name moment sent fault new = FailsToChange old (IsSavingReplyDue name moment sent) fault new

-- the token of this name is unlocked, and the book is saved
pub record IsUnlockSaved (IsStored : List ℕ → Type 0) (name : List ℕ) (old new : HeldFacts) : Type 0 where
  pub unlocked : IsTokenUnlocked name old.book new.book
  pub saved : SavesBook IsStored old.store new.book new.store

-- a book is that of this text, and the text was read from a file
pub record IsReadBook {File : Type 0} (bytes_of : File → Option (List ℕ)) (text : List ℕ) (book : BookFields) : Type 0 where
  pub is_text : IsBookText text book
  pub is_read : IsRead bytes_of text
