-- What a store of the book's text promises about one save.
use Rattle.std.specs.Prelude.{ℕ, ◌≡◌, ◌+◌, ◌⊎◌, true, false, Bool, List}
use Rattle.std.specs.declared.result.Result.{Result}
use Rattle.std.specs.declared.result.Result.TheVariants.{Ok, Err}
use Rattle.account_book.specs.declared.store.StoreFault.{StoreFault}

-- what is known of a store of a text
pub record StoreFacts : Type 0 where
  -- the text that it holds; if it has failed, it holds this one or `asked`
  pub saved : List ℕ
  -- the text that the last save was given
  pub asked : List ℕ
  -- whether it has failed
  pub failed : Bool
  -- how many saves it has begun
  pub saves : ℕ

-- a store that had not failed begins a save of this text
pub record BeginsSave (old : StoreFacts) (text : List ℕ) (new : StoreFacts) : Type 0 where
  pub working : old.failed ≡ false
  pub asked : new.asked ≡ text
  pub counted : new.saves ≡ old.saves + 1

-- a save that succeeds: the store holds the text
pub record IsSaved (old : StoreFacts) (text : List ℕ) (new : StoreFacts) : Type 0 where
  pub begun : BeginsSave old text new
  pub saved : new.saved ≡ text
  pub working : new.failed ≡ false

-- a save in which the store fails: it holds the text that it had before, or this one
pub record IsFailedSave (old : StoreFacts) (text : List ℕ) (new : StoreFacts) : Type 0 where
  pub begun : BeginsSave old text new
  pub saved : (new.saved ≡ old.saved) ⊎ (new.saved ≡ text)
  pub failed : new.failed ≡ true

-- a save that is not done: the store had failed before, and stays as it is; or it fails in this save
abbrev pub IsNotSaved : (old : StoreFacts) → (text : List ℕ) → (new : StoreFacts) → Type 0
IsNotSaved old text new = ((old.failed ≡ true) × (new ≡ old)) ⊎ IsFailedSave old text new

-- one save and its result
abbrev pub IsSaveAnswered : StoreFacts → List ℕ → Result (Unit {0}) StoreFault → StoreFacts → Type 0
IsSaveAnswered old text (Ok done) new = IsSaved old text new
IsSaveAnswered old text (Err fault) new = IsNotSaved old text new

-- the store may hold this text: the one that it says it holds; or, if it has failed, the one that the failed save was given
abbrev pub MayHold : StoreFacts → (text : List ℕ) → Type 0
MayHold store text = (text ≡ store.saved) ⊎ ((store.failed ≡ true) × (text ≡ store.asked))

-- while the store saves the text `asked`, it may hold this text: one that it may have held as the save began, or `asked`. That a store
-- which is stopped within a save holds no other is assumed of it (`BookStore`).
abbrev pub MayHoldWithinSave : (before : StoreFacts) → (asked : List ℕ) → (text : List ℕ) → Type 0
MayHoldWithinSave before asked text = MayHold before text ⊎ (text ≡ asked)
