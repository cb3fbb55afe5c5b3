-- Where a run of a desk or a hall may stop, and which text its store then holds.
use Rattle.std.specs.Prelude.{ℕ, ◌≡◌, ◌⊎◌, false, List}
use Rattle.account_book.specs.{BookFields, IsBookText}
use Rattle.account_book.specs.Store.{StoreFacts, MayHold, MayHoldWithinSave}
use Rattle.account_book.specs.AccountAttempt.{AccountAttempt}
use Rattle.account_book.specs.Tokens.{IsBookAttempt}
use Rattle.sasl_desk.specs.Faults.{IsNotBegun}
use Rattle.sasl_desk.specs.declared.fault.DeskFault.{DeskFault}

-- a desk or a hall that has the book `kept` in this store is stopped, and the store may hold this text: between two calls, or within one that
-- saves the text `asked` of the book with the attempt that it judges
abbrev pub MayBeLeft : (kept : BookFields) → StoreFacts → (text : List ℕ) → Type 0
MayBeLeft kept store text =
    MayHold store text
    ⊎ ((attempt : AccountAttempt) × (next : BookFields) × (asked : List ℕ) × IsBookAttempt kept attempt next × IsBookText asked next
    × MayHoldWithinSave store asked text)

-- `begin` is stopped, or fails, and the store that it was handed with this book may hold this text: within its save of the text `asked` of
-- the book, or after it has failed
abbrev pub MayBeLeftUnbegun : StoreFacts → BookFields → (text : List ℕ) → Type 0
MayBeLeftUnbegun store book text =
    ((asked : List ℕ) × IsBookText asked book × MayHoldWithinSave store asked text)
    ⊎ ((fault : DeskFault) × (after : StoreFacts) × IsNotBegun store book fault after × MayHold after text)

-- a store that has not failed holds a text that is read as the old book; `begin` is handed both, and is stopped or fails; the text that is
-- then left is read as the new book
pub record IsUnbegun (old new : BookFields) : Type 0 where
  pub store : StoreFacts
  pub working : store.failed ≡ false
  pub read : IsBookText store.saved old
  pub text : List ℕ
  pub stopped : MayBeLeftUnbegun store old text
  pub leaves : IsBookText text new
