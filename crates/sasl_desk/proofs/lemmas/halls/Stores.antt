-- What the store of a hall holds, wherever the hall stops: what a desk's does (`runs/Stores.antt`), at the place of the latest session.
use Rattle.std.proofs.Common.{ℕ, List, [], ◌∷◌, reverse}
use Rattle.account_book.specs.{BookFields, IsBookText}
use Rattle.account_book.specs.Store.{StoreFacts}
use Rattle.account_book.specs.Spent.{spent_by_all}
use Rattle.log_grammar.specs.Books.{accounts_in}
use Rattle.log_grammar.specs.Places.{Place, between}
use Rattle.log_grammar.specs.Demands.{Accounts}
use Rattle.log_grammar.specs.Numbered.{Numbered, of_number}
use Rattle.log_grammar.specs.Versions.{max_open_sessions}
use Rattle.sasl_desk.specs.Saved.{AreLinesSaved, AreCountersSaved}
use Rattle.sasl_desk.specs.Desks.{IsStoredAt}
use Rattle.sasl_desk.specs.Halls.{HallFields, hall_lines, IsStoredAfter, IsHallAfter}
use Rattle.sasl_desk.specs.Changes.{run_of, IsHallRunOf}
use Rattle.sasl_desk.specs.Passes.{AreNumberedPassed}
use Rattle.sasl_desk.specs.Stops.{MayBeLeft}
use Rattle.sasl_desk.specs.Runs.{Call}
use Rattle.sasl_desk.proofs.lemmas.runs.Passes.{told_counters_are_passed_under_numbers}
use Rattle.sasl_desk.proofs.lemmas.runs.Stores.{HoldsTold, store_holds_told, told_is_saved, told_counters_are_saved, stopped_text_is_left}

-- a store that is as it has to be after the calls of a hall is so at a place of the latest session's log
hall_store_fits_place : (IsStored : List ℕ → Type 0) (accounts : Accounts) (places : ℕ → Place) (book : BookFields) (store : StoreFacts)
    (calls : List (Numbered Call)) → IsStoredAfter IsStored accounts calls places book store
    → (own : List Call) × (place : Place) × IsStoredAt IsStored accounts own place book store
hall_store_fits_place IsStored accounts places book store [] held = ([], between, held)
hall_store_fits_place IsStored accounts places book store (c ∷ calls) stored =
    (of_number c.number (c ∷ calls), places c.number, stored)

-- a hall that has answered these calls
module _ {S : Type 0} {facts : S → StoreFacts} {IsStored : List ℕ → Type 0} {start : BookFields} {calls : List (Numbered Call)}
    {hall : HallFields S} (s : IsHallAfter facts IsStored start calls hall) where
  -- the replies in its log lead to the book that its store holds
  pub hall_holds_told : HoldsTold IsStored start s.told hall.keeper.book (facts hall.keeper.store)
  hall_holds_told =
      let book = hall.keeper.book in
      let store = facts hall.keeper.store in
      let (own, place, stored) = hall_store_fits_place IsStored (accounts_in start) s.places book store calls s.is_stored in
      store_holds_told IsStored book store s.is_book (accounts_in start) own place stored

  -- the law: the book to which the replies in a hall's log lead was saved
  pub log_is_saved : AreLinesSaved IsStored start (hall_lines calls) (facts hall.keeper.store)
  log_is_saved = record { places = s.places; told = s.told; begins = s.begins; saved = told_is_saved hall_holds_told }

  -- the law: wherever a hall stops, what was spent before its run is spent in the book of the text that is left, and so is what PASS used
  pub passed_counters_are_saved : (used : List (List ℕ × ℕ)) × AreNumberedPassed (accounts_in start) (hall_lines calls) used
      × AreCountersSaved start used hall.keeper.book (facts hall.keeper.store)
  passed_counters_are_saved = (
    spent_by_all (reverse s.told),
    told_counters_are_passed_under_numbers max_open_sessions (accounts_in start) (hall_lines calls) s.places s.told s.begins,
    told_counters_are_saved hall_holds_told,
  )

  -- the law: wherever a hall stops, the text that is left is that of a book that its run leaves
  pub stopped_hall_leaves_book : (text : List ℕ) → MayBeLeft hall.keeper.book (facts hall.keeper.store) text
      → (left : BookFields) × IsBookText text left × IsHallRunOf facts IsStored (run_of start calls left)
  stopped_hall_leaves_book text stopped =
      let (left, leaves, is_text) = stopped_text_is_left hall_holds_told text stopped in
      (left, is_text, record { server = hall; stands = s; text = text; stopped = stopped; leaves = is_text })
