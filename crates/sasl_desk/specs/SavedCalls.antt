-- What a call of a desk or a hall asks of its store: one save for a reply that changes the token, or for HALT, and nothing else.
use Rattle.std.specs.Prelude.{◌≡◌, ◌+◌, true, false, Bool, List, [], ◌∷◌, length, filter}
use Rattle.account_book.specs.{BookFields, IsBookText}
use Rattle.account_book.specs.SavedBooks.{needs_save}
use Rattle.account_book.specs.Store.{StoreFacts}
use Rattle.account_book.specs.AccountAttempt.{AccountAttempt}
use Rattle.account_book.specs.Tokens.{IsBookAttempt}
use Rattle.book_keeper.specs.declared.keeper.Keeper.{Keeper}
use Rattle.log_grammar.specs.Lines.{LogLine, said, heard, replies, halt, code_line}
use Rattle.log_grammar.specs.Places.{Place, waits_code}
use Rattle.sasl_desk.specs.Events.{ClientEvent}
use Rattle.sasl_desk.specs.Runs.{Request, hears}

-- a line for which the store was asked to save: a reply that needs it, or HALT
abbrev pub is_saving : LogLine → Bool
is_saving (said (replies moment reply)) = needs_save reply
is_saving (said halt) = true
is_saving line = false

-- the attempt of a call: by the account whose client may send a code at this place, at the moment of the call, with what the client sent;
-- and its reply needs a save
pub record IsAttemptOf (request : Request) (at : Place) (lines : List LogLine) (attempt : AccountAttempt) : Type 0 where
  pub event : ClientEvent
  pub answer : LogLine
  pub is_request : request ≡ hears event attempt.moment
  pub place : at ≡ waits_code attempt.account
  pub lines_are : lines ≡ heard (code_line attempt.sent) ∷ answer ∷ []
  pub to_save : needs_save attempt.reply ≡ true

-- a keeper before and after calls, or a call: `facts` are those of its store
module _ {S : Type 0} (facts : S → StoreFacts) where
  -- the store was asked for one save for each line that needs one: a reply that changes the token, or HALT
  abbrev pub CountsSaves : List LogLine → (old new : Keeper S) → Type 0
  CountsSaves lines old new = (facts new.store).saves ≡ (facts old.store).saves + length (filter is_saving lines)

  -- if the store was asked to save, it was given a text of the book with the attempt of this call
  abbrev pub AsksToSaveAttempt : Request → Place → List LogLine → (old new : Keeper S) → Type 0
  AsksToSaveAttempt request place lines old new = (filter is_saving lines ≡ [] → ⊥)
      → (attempt : AccountAttempt) × (next : BookFields) × IsAttemptOf request place lines attempt
      × IsBookAttempt old.book attempt next × IsBookText (facts new.store).asked next

  -- a call without a reply that needs a save, and without HALT, leaves the book and the store as they are
  abbrev pub IsQuiet : List LogLine → (old new : Keeper S) → Type 0
  IsQuiet lines old new = filter is_saving lines ≡ [] → (new.book ≡ old.book) × (facts new.store ≡ facts old.store)

  -- the store has failed, and the book is as before
  abbrev pub LeavesFailedStore : (old new : Keeper S) → Type 0
  LeavesFailedStore old new = ((facts new.store).failed ≡ true) × (new.book ≡ old.book)
