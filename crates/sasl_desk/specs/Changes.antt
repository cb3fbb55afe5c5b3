-- What happens to a book over its life: runs of desks and of halls, one after another, and what is done with it between them.
use Rattle.std.specs.Prelude.{ℕ, ◌≡◌, List, [], ◌∷◌, ◌++◌}
use Rattle.account_book.specs.{AccountFields, BookFields, IsBookText}
use Rattle.account_book.specs.Accounts.{IsAdded}
use Rattle.account_book.specs.Store.{StoreFacts}
use Rattle.account_book.specs.Tokens.{IsUnlocked, IsBookAttempt}
use Rattle.account_book.specs.AccountAttempt.{AccountAttempt}
use Rattle.account_book.specs.Spent.{spent_by}
use Rattle.log_grammar.specs.Books.{accounts_in}
use Rattle.log_grammar.specs.Numbered.{Numbered}
use Rattle.sasl_desk.specs.Runs.{Call, run_lines}
use Rattle.sasl_desk.specs.Desks.{IsDeskAfter}
use Rattle.sasl_desk.specs.Halls.{HallFields, hall_lines, IsHallAfter}
use Rattle.sasl_desk.specs.Passes.{ArePassed, AreNumberedPassed}
use Rattle.sasl_desk.specs.Stops.{MayBeLeft, IsUnbegun}
use Rattle.sasl_desk.specs.declared.desk.Desk.{Desk}

-- a run of a desk or of a hall, by its calls: the book that it began with, the calls that it answered, and the book that it left
pub record RunOf (C : Type 0) : Type 0 where
  pub start : BookFields
  pub calls : List C
  pub left : BookFields

-- a run of these parts
abbrev pub run_of : {C : Type 0} → (start : BookFields) → List C → (left : BookFields) → RunOf C
run_of start calls left = record { start = start; calls = calls; left = left }

-- a change of a book: a run of a desk or a hall, from the text that it read to the one that its store holds once it has stopped; one that
-- stopped before it had begun; an attempt that a token judges outside such a run; an unlocked token; an added account
pub data Change : Type 0 where
  desk_ran : (run : RunOf Call) → Change
  hall_ran : (run : RunOf (Numbered Call)) → Change
  unbegun : Change
  judged : (attempt : AccountAttempt) → Change
  unlocked : (name : List ℕ) → Change
  added : (name : List ℕ) (account : AccountFields) → Change

-- a change uses these counters: a run those of the PASS lines of its log
abbrev pub AreUsedByChange : Change → (used : List (List ℕ × ℕ)) → Type 0
AreUsedByChange (desk_ran run) used = ArePassed (accounts_in run.start) (run_lines run.calls) used
AreUsedByChange (hall_ran run) used = AreNumberedPassed (accounts_in run.start) (hall_lines run.calls) used
AreUsedByChange unbegun used = used ≡ []
AreUsedByChange (judged attempt) used = used ≡ spent_by attempt
AreUsedByChange (unlocked name) used = used ≡ []
AreUsedByChange (added name account) used = used ≡ []

-- the changes, the latest first, use these counters, those of the latest first
abbrev pub AreUsedByChanges : List Change → (used : List (List ℕ × ℕ)) → Type 0
AreUsedByChanges [] used = used ≡ []
AreUsedByChanges (change ∷ before) used =
    (own : List (List ℕ × ℕ)) × (earlier : List (List ℕ × ℕ)) × AreUsedByChange change own × AreUsedByChanges before earlier
    × (used ≡ own ++ earlier)

-- this is a run of a desk or of a hall: `IsAfter` says that one that began with a book has answered calls, `book` is the book that it has,
-- and `store` what is known of its store
pub record IsRunOf {Server C : Type 0} (IsAfter : BookFields → List C → Server → Type 0) (book : Server → BookFields)
    (store : Server → StoreFacts) (run : RunOf C) : Type 0 where
  -- one that began with the book has answered the calls
  pub server : Server
  pub stands : IsAfter run.start run.calls server
  -- it was stopped, between two calls or within one, and the text that its store then holds is read as the book that it left
  pub text : List ℕ
  pub stopped : MayBeLeft (book server) (store server) text
  pub leaves : IsBookText text run.left

-- runs and changes: `facts` are those of the store, and `IsStored` is true of each text that is stored
module _ {S : Type 0} (facts : S → StoreFacts) (IsStored : List ℕ → Type 0) where
  -- this is a run of a desk
  abbrev pub IsDeskRunOf : RunOf Call → Type 0
  IsDeskRunOf run =
      IsRunOf (IsDeskAfter facts IsStored) (λ (desk : Desk S). desk.keeper.book) (λ (desk : Desk S). facts desk.keeper.store) run

  -- this is a run of a hall
  abbrev pub IsHallRunOf : RunOf (Numbered Call) → Type 0
  IsHallRunOf run =
      IsRunOf (IsHallAfter facts IsStored) (λ (hall : HallFields S). hall.keeper.book) (λ (hall : HallFields S). facts hall.keeper.store)
      run

  -- the change makes the one book the other
  abbrev pub IsChange : Change → (old new : BookFields) → Type 0
  IsChange (desk_ran run) old new = IsDeskRunOf run × (run.start ≡ old) × (run.left ≡ new)
  IsChange (hall_ran run) old new = IsHallRunOf run × (run.start ≡ old) × (run.left ≡ new)
  IsChange unbegun old new = IsUnbegun old new
  IsChange (judged attempt) old new = IsBookAttempt old attempt new
  IsChange (unlocked name) old new = IsUnlocked old name new
  IsChange (added name account) old new = IsAdded old name account new

  -- changes, the latest first, each made to the book that the one before left, from the first book to the last
  abbrev pub AreChanges : (first : BookFields) → List Change → (last : BookFields) → Type 0
  AreChanges first [] last = last ≡ first
  AreChanges first (change ∷ before) last = (middle : BookFields) × AreChanges first before middle × IsChange change middle last
