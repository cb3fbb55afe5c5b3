-- What was saved of a log's replies: a text of the book to which they lead; and that the counters that they used are spent in each text
-- that the store may hold.
use Rattle.std.specs.Prelude.{ℕ, ◌≡◌, List, ◌++◌, reverse}
use Rattle.account_book.specs.{BookFields, IsBookText}
use Rattle.account_book.specs.SavedBooks.{HasStoredText}
use Rattle.account_book.specs.Store.{StoreFacts, MayHold}
use Rattle.account_book.specs.AccountAttempt.{AccountAttempt}
use Rattle.account_book.specs.Tokens.{IsBookAttempt, IsBookAfterAttempts}
use Rattle.account_book.specs.Spent.{AreSpent, spent_by}
use Rattle.log_grammar.specs.Books.{accounts_in}
use Rattle.log_grammar.specs.Begins.{Begins}
use Rattle.log_grammar.specs.Demands.{demands}
use Rattle.log_grammar.specs.Lines.{LogLine, log_bytes}
use Rattle.log_grammar.specs.Numbered.{Numbered, IsNumberedLogUpTo}
use Rattle.log_grammar.specs.Places.{Place}
use Rattle.log_grammar.specs.Versions.{max_open_sessions}
use Rattle.sasl_desk.specs.Desks.{IsTextLeft}
use Rattle.sasl_desk.specs.Stops.{MayBeLeft}

-- these attempts lead to a book. `IsStored` is true of some text of it, and each text that the store may hold is of this book, or of it
-- with one more attempt.
pub record IsToldSaved (IsStored : List ℕ → Type 0) (start : BookFields) (told : List AccountAttempt) (store : StoreFacts) : Type 0 where
  pub last : BookFields
  pub is_last : IsBookAfterAttempts start (reverse told) last
  pub saved : HasStoredText IsStored last
  pub held : (text : List ℕ) → MayHold store text → IsTextLeft last text

-- the replies in a log of version 1 are saved in the store, as `IsToldSaved` says
pub record IsLogSaved (IsStored : List ℕ → Type 0) (start : BookFields) (log : List ℕ) (store : StoreFacts) : Type 0 where
  pub lines : List LogLine
  pub place : Place
  pub told : List AccountAttempt
  pub are_lines : log ≡ log_bytes lines
  pub begins : Begins (demands (accounts_in start)) lines place told
  pub saved : IsToldSaved IsStored start told store

-- the replies in these lines of a log of version 2 are saved in the store, as `IsToldSaved` says
pub record AreLinesSaved (IsStored : List ℕ → Type 0) (start : BookFields) (lines : List (Numbered LogLine)) (store : StoreFacts)
    : Type 0 where
  pub places : ℕ → Place
  pub told : List AccountAttempt
  pub begins : IsNumberedLogUpTo max_open_sessions (demands (accounts_in start)) lines places told
  pub saved : IsToldSaved IsStored start told store

-- the text is that of a book in which these counters are spent
abbrev pub IsTextOfSpent : List (List ℕ × ℕ) → (text : List ℕ) → Type 0
IsTextOfSpent counters text = (saved : BookFields) × IsBookText text saved × AreSpent counters saved

-- a desk or a hall began with the book `start`, has used these counters, and has the book `kept` in this store
pub record AreCountersSaved (start : BookFields) (used : List (List ℕ × ℕ)) (kept : BookFields) (store : StoreFacts) : Type 0 where
  -- wherever it stops, the text that its store may hold is that of a book in which each counter is spent that was used, and each that was
  -- spent before the run
  pub left : (spent : List (List ℕ × ℕ)) (text : List ℕ) → AreSpent spent start → MayBeLeft kept store text
      → IsTextOfSpent (used ++ spent) text
  -- in the book with one more attempt, the counters that the attempt uses are spent as well
  pub next : (spent : List (List ℕ × ℕ)) (attempt : AccountAttempt) (next : BookFields) → AreSpent spent start
      → IsBookAttempt kept attempt next → AreSpent (spent_by attempt ++ (used ++ spent)) next
