-- What the store of a desk or a hall holds, wherever it stops: a book that its run may leave, in which all that was told is spent. The
-- file of a hall is `halls/Stores.antt`; what it shares with a desk is here.
use Rattle.std.proofs.Common.{◌≡◌, inl, inr, false, ℕ, List, ◌++◌, reverse, refl, sym, ◌∙◌, subst}
use Rattle.account_book.specs.{BookFields, IsBookText}
use Rattle.account_book.specs.SavedBooks.{HasStoredText, HoldsBook}
use Rattle.account_book.specs.Store.{StoreFacts, MayHold, IsNotSaved}
use Rattle.account_book.specs.AccountAttempt.{AccountAttempt}
use Rattle.account_book.specs.Tokens.{IsBookAfterAttempts}
use Rattle.account_book.specs.Spent.{AreSpent, spent_by_all}
use Rattle.log_grammar.specs.Books.{accounts_in}
use Rattle.log_grammar.specs.Lines.{log_bytes}
use Rattle.log_grammar.specs.Places.{Place, halted}
use Rattle.log_grammar.specs.Demands.{Accounts}
use Rattle.sasl_desk.specs.Runs.{Call, run_lines}
use Rattle.sasl_desk.specs.Saved.{IsToldSaved, IsLogSaved, AreCountersSaved}
use Rattle.sasl_desk.specs.Desks.{IsLostAfter, IsStoredAt}
use Rattle.sasl_desk.specs.Desks.{IsDeskAfter, IsTextLeft}
use Rattle.sasl_desk.specs.Changes.{run_of, IsDeskRunOf}
use Rattle.sasl_desk.specs.Passes.{ArePassed}
use Rattle.sasl_desk.specs.Stops.{MayBeLeft, MayBeLeftUnbegun}
use Rattle.sasl_desk.specs.declared.desk.Desk.{Desk}
use Rattle.sasl_desk.specs.declared.fault.DeskFault.TheVariants.{Halted, Unwritable, NoNumber, NoMemory}
use Rattle.sasl_desk.proofs.lemmas.turns.Keepers.{store_failed_in_this_save}
use Rattle.sasl_desk.proofs.lemmas.runs.Spent.{spent_stays_spent}
use Rattle.sasl_desk.proofs.lemmas.runs.BooksAfterReplies.{replies_spend_counters}
use Rattle.sasl_desk.proofs.lemmas.runs.Changes.{left_book_keeps_spent_counters}
use Rattle.sasl_desk.proofs.lemmas.runs.Passes.{told_counters_are_passed}

-- a desk or a hall that began with the book `start`, has told these replies, and has the book `kept` in this store
pub record HoldsTold (IsStored : List ℕ → Type 0) (start : BookFields) (told : List AccountAttempt) (kept : BookFields)
    (store : StoreFacts) : Type 0 where
  -- the replies lead to its book
  pub is_book : IsBookAfterAttempts start (reverse told) kept
  -- a text of its book was stored
  pub stored : HasStoredText IsStored kept
  -- each text that the store may hold is that of a book that its run may leave
  pub texts : (text : List ℕ) → MayHold store text → IsTextLeft kept text

-- a store of this book
module _ (IsStored : List ℕ → Type 0) (book : BookFields) (store : StoreFacts) where
  -- a text that the store may hold while it holds the book is one that a run may leave
  held_text_may_be_left : HoldsBook IsStored book store → (text : List ℕ) → MayHold store text → IsTextLeft book text
  held_text_may_be_left held text (inl same) = (book, inl refl, subst (λ (t : List ℕ). IsBookText t book) (sym same) held.saved)
  held_text_may_be_left held text (inr (failed, same)) = absurd (cc (held.working, failed))

  -- a text that the store may hold after it failed to save the latest attempt is one that a run may leave
  lost_text_may_be_left : (accounts : Accounts) (calls : List Call) → IsLostAfter IsStored accounts calls book store
      → (text : List ℕ) → MayHold store text → IsTextLeft book text
  lost_text_may_be_left accounts calls lost text (inl same) = elim lost.saved [
    | inl before ↦ (book, inl refl, subst (λ (t : List ℕ). IsBookText t book) (sym same) before.0)
    | inr after ↦ (
      lost.next,
      inr (lost.attempt, lost.is_judged),
      subst (λ (t : List ℕ). IsBookText t lost.next) (sym same) after,
    )
  ]
  lost_text_may_be_left accounts calls lost text (inr (failed, same)) = (
    lost.next,
    inr (lost.attempt, lost.is_judged),
    subst (λ (t : List ℕ). IsBookText t lost.next) (sym same) lost.asked,
  )

  -- replies that lead to the book, and a store that is as it has to be at a place of a log
  module _ {start : BookFields} {told : List AccountAttempt} (is_book : IsBookAfterAttempts start (reverse told) book)
      (accounts : Accounts) (calls : List Call) where
    -- at each place of a log, the replies lead to the book that the store holds
    pub store_holds_told : (place : Place) → IsStoredAt IsStored accounts calls place book store
        → HoldsTold IsStored start told book store
    store_holds_told halted lost =
        record { is_book = is_book; stored = lost.before; texts = lost_text_may_be_left accounts calls lost }
    store_holds_told place held =
        record { is_book = is_book; stored = (store.saved, held.saved, held.stored); texts = held_text_may_be_left held }

-- a desk or a hall
module _ {IsStored : List ℕ → Type 0} {start : BookFields} {told : List AccountAttempt} {kept : BookFields} {store : StoreFacts}
    (holds : HoldsTold IsStored start told kept store) where
  -- its replies are saved in its store
  pub told_is_saved : IsToldSaved IsStored start told store
  told_is_saved = record { last = kept; is_last = holds.is_book; saved = holds.stored; held = holds.texts }

  -- each text that its store may hold where it stops is that of a book that its run may leave
  pub stopped_text_is_left : (text : List ℕ) → MayBeLeft kept store text → IsTextLeft kept text
  stopped_text_is_left text (inl may) = holds.texts text may
  stopped_text_is_left text (inr (attempt, next, asked, one, is_text, inl may)) = holds.texts text may
  stopped_text_is_left text (inr (attempt, next, asked, one, is_text, inr same)) =
      (next, inr (attempt, one), subst (λ (t : List ℕ). IsBookText t next) (sym same) is_text)

  -- what was spent before the run, and what its replies used, is spent in its book
  kept_book_keeps_told_counters : (ps : List (List ℕ × ℕ)) → AreSpent ps start → AreSpent (spent_by_all (reverse told) ++ ps) kept
  kept_book_keeps_told_counters ps spent = replies_spend_counters start (reverse told) kept ps holds.is_book spent

  -- the law: wherever it stops, what was spent before the run is spent in the book of the text that is left, and so is what the replies used
  pub told_counters_are_saved : AreCountersSaved start (spent_by_all (reverse told)) kept store
  told_counters_are_saved = record {
    left = λ ps text spent stopped.
        let (left, leaves, is_text) = stopped_text_is_left text stopped in (
          left,
          is_text,
          left_book_keeps_spent_counters kept left (spent_by_all (reverse told) ++ ps) leaves (kept_book_keeps_told_counters ps spent),
        );
    next = λ ps t next spent one.
        spent_stays_spent kept next t (spent_by_all (reverse told) ++ ps) one (kept_book_keeps_told_counters ps spent);
  }

-- a desk that has answered these calls
module _ {S : Type 0} {facts : S → StoreFacts} {IsStored : List ℕ → Type 0} {start : BookFields} {calls : List Call} {desk : Desk S}
    (s : IsDeskAfter facts IsStored start calls desk) where
  -- the replies in its log lead to the book that its store holds
  pub desk_holds_told : HoldsTold IsStored start s.told desk.keeper.book (facts desk.keeper.store)
  desk_holds_told =
      store_holds_told IsStored desk.keeper.book (facts desk.keeper.store) s.is_book (accounts_in start) calls s.place s.is_stored

  -- the law: the book to which the replies in a desk's log lead was saved
  pub log_is_saved : IsLogSaved IsStored start (log_bytes (run_lines calls)) (facts desk.keeper.store)
  log_is_saved = record {
    lines = run_lines calls;
    place = s.place;
    told = s.told;
    are_lines = refl;
    begins = s.begins;
    saved = told_is_saved desk_holds_told;
  }

  -- the law: wherever a desk stops, what was spent before its run is spent in the book of the text that is left, and so is what PASS used
  pub passed_counters_are_saved : (used : List (List ℕ × ℕ)) × ArePassed (accounts_in start) (run_lines calls) used
      × AreCountersSaved start used desk.keeper.book (facts desk.keeper.store)
  passed_counters_are_saved = (
    spent_by_all (reverse s.told),
    told_counters_are_passed (accounts_in start) (run_lines calls) s.place s.told s.begins,
    told_counters_are_saved desk_holds_told,
  )

  -- the law: wherever a desk stops, the text that is left is that of a book that its run leaves
  pub stopped_desk_leaves_book : (text : List ℕ) → MayBeLeft desk.keeper.book (facts desk.keeper.store) text
      → (left : BookFields) × IsBookText text left × IsDeskRunOf facts IsStored (run_of start calls left)
  stopped_desk_leaves_book text stopped =
      let (left, leaves, is_text) = stopped_text_is_left desk_holds_told text stopped in
      (left, is_text, record { server = desk; stands = s; text = text; stopped = stopped; leaves = is_text })

-- a store that has not failed holds a text of this book
module _ (book : BookFields) (store : StoreFacts) (working : store.failed ≡ false) (read : IsBookText store.saved book) where
  -- each text that it may hold is of the book
  held_text_is_of_book : (text : List ℕ) → MayHold store text → IsBookText text book
  held_text_is_of_book text (inl same) = subst (λ (t : List ℕ). IsBookText t book) (sym same) read
  held_text_is_of_book text (inr (failed, same)) = absurd (cc (working, failed))

  -- after it failed to save a text of the book, each text that it may hold is of the book
  unsaved_text_is_of_book : (asked : List ℕ) (after : StoreFacts) → IsBookText asked book → IsNotSaved store asked after
      → (text : List ℕ) → MayHold after text → IsBookText text book
  unsaved_text_is_of_book asked after is_text lost text may =
      let failed = store_failed_in_this_save store after asked working lost in
      elim may [
        | inl held ↦ elim failed.saved [
          | inl before ↦ subst (λ (t : List ℕ). IsBookText t book) (sym (held ∙ before)) read
          | inr same ↦ subst (λ (t : List ℕ). IsBookText t book) (sym (held ∙ same)) is_text
        ]
        | inr given ↦ subst (λ (t : List ℕ). IsBookText t book) (sym (given.1 ∙ failed.begun.asked)) is_text
      ]

  -- the law: if `begin` is stopped or fails, the text that is left is of the book
  pub unbegun_text_is_of_book : (text : List ℕ) → MayBeLeftUnbegun store book text → IsBookText text book
  unbegun_text_is_of_book text (inl (asked, is_text, inl may)) = held_text_is_of_book text may
  unbegun_text_is_of_book text (inl (asked, is_text, inr same)) = subst (λ (t : List ℕ). IsBookText t book) (sym same) is_text
  unbegun_text_is_of_book text (inr (NoMemory, after, same, may)) =
      held_text_is_of_book text (subst (λ (f : StoreFacts). MayHold f text) same may)
  unbegun_text_is_of_book text (inr (Halted, after, lost, may)) =
      unsaved_text_is_of_book lost.text after lost.is_text lost.lost text may
  unbegun_text_is_of_book text (inr (Unwritable, after, never, may)) = absurd never
  unbegun_text_is_of_book text (inr (NoNumber, after, never, may)) = absurd never
