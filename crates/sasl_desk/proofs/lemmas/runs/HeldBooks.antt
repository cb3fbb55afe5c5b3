-- What the store of a desk or a hall holds, by where its log stands: the book, or, after a halt, what a failed save left.
use Rattle.std.proofs.Common.{◌≡◌, inl, inr, ◌⊎◌, Bool, true, false, ℕ, List, ◌∷◌, refl, sym, subst}
use Rattle.std.proofs.lemmas.Bool.{false≢true}
use Rattle.otp_core.specs.Attempt.{CodeTexts}
use Rattle.account_book.specs.{BookFields, IsBookText}
use Rattle.account_book.specs.SavedBooks.{SavesBook, HoldsBook}
use Rattle.account_book.specs.Store.{StoreFacts}
use Rattle.account_book.specs.AccountAttempt.{account_attempt_of}
use Rattle.book_keeper.specs.Keeper.{IsSavedIfDue, IsCodeJudged}
use Rattle.book_keeper.specs.declared.keeper.CodeJudged.TheVariants.{NotSaved}
use Rattle.log_grammar.specs.Lines.{said, halt}
use Rattle.log_grammar.specs.Places.{Place, waits_code, halted}
use Rattle.log_grammar.specs.Demands.{Accounts}
use Rattle.sasl_desk.specs.Desks.{IsLostAfter, IsStoredAt}
use Rattle.sasl_desk.specs.DueLines.{is_client_turn}
use Rattle.sasl_desk.specs.Events.{ClientEvent}
use Rattle.sasl_desk.specs.Runs.{hears, Call, call_of, IsRun}
use Rattle.sasl_desk.specs.inner.TurnResults.{judged_lines}
use Rattle.sasl_desk.proofs.lemmas.turns.Keepers.{store_failed_in_this_save}

module _ (IsStored : List ℕ → Type 0) where
  -- a store that saved the book holds its text
  pub saved_store_holds_book : (book : BookFields) (was now : StoreFacts) → SavesBook IsStored was book now → HoldsBook IsStored book now
  saved_store_holds_book book was now saves = record {
    working = saves.saved.working;
    saved = subst (λ (t : List ℕ). IsBookText t book) (sym saves.saved.saved) saves.is_text;
    stored = subst IsStored (sym saves.saved.saved) saves.stored;
  }

  -- after a reply the store holds the text of the book, if it held that of the book before it
  pub kept_store_holds_book : (is_due : Bool) (old new : BookFields) (was now : StoreFacts)
      → IsSavedIfDue IsStored is_due old was new now → HoldsBook IsStored old was → HoldsBook IsStored new now
  kept_store_holds_book true old new was now kept held = saved_store_holds_book new was now kept
  kept_store_holds_book false old new was now (same, unasked) held =
      subst (λ (b : BookFields). HoldsBook IsStored b now) (sym same)
      (subst (λ (f : StoreFacts). HoldsBook IsStored old f) (sym unasked) held)

  -- a store at a place of a log
  module _ (accounts : Accounts) (calls : List Call) (book : BookFields) (store : StoreFacts) where
    -- if the store has failed, the place is that of the halt
    pub failed_store_means_halted : (at : Place) → IsStoredAt IsStored accounts calls at book store → store.failed ≡ true → at ≡ halted
    failed_store_means_halted halted lost failed = refl
    failed_store_means_halted at held failed = absurd (cc (held.working, failed))

    -- at a place other than the halt, the store holds the book
    pub unhalted_store_holds_book : (at : Place) → (at ≡ halted → ⊥) → IsStoredAt IsStored accounts calls at book store
        → HoldsBook IsStored book store
    unhalted_store_holds_book halted session stored = absurd (session refl)
    unhalted_store_holds_book at session stored = stored

    -- at a client's turn, the store holds the book
    pub client_turn_store_holds_book : (at : Place) → is_client_turn at ≡ true → IsStoredAt IsStored accounts calls at book store
        → HoldsBook IsStored book store
    client_turn_store_holds_book at turn stored =
        unhalted_store_holds_book at (λ is. false≢true (subst (λ (p : Place). is_client_turn p ≡ true) is turn)) stored

    -- at a place other than the halt, a store that holds the book is as it has to be
    pub held_book_fits_place : (at : Place) → (at ≡ halted → ⊥) → HoldsBook IsStored book store
        → IsStoredAt IsStored accounts calls at book store
    held_book_fits_place halted session held = absurd (session refl)
    held_book_fits_place at session held = held

  -- after the save for a code failed, the store is as it has to be at the halt
  pub lost_save_fits_halt : (accounts : Accounts) (calls : List Call) (at : Place) (old new : BookFields) (was now : StoreFacts)
      (name : List ℕ) (event : ClientEvent) (moment : ℕ) (sent : CodeTexts)
      → IsRun accounts calls at → at ≡ waits_code name → HoldsBook IsStored old was
      → IsCodeJudged IsStored old was name moment sent NotSaved new now
      → IsStoredAt IsStored accounts (call_of (hears event moment) (judged_lines moment sent NotSaved) ∷ calls) halted new now
  lost_save_fits_halt accounts calls at old new was now name event moment sent run here held (same, (next, (reply, needs, one), loses)) =
      let lost = store_failed_in_this_save was now loses.text held.working loses.lost in
      let of_old : (IsBookText now.saved old × IsStored now.saved) ⊎ IsBookText now.saved next = elim lost.saved [
        | inl before ↦ inl (subst (λ (t : List ℕ). IsBookText t old) (sym before) held.saved, subst IsStored (sym before) held.stored)
        | inr after ↦ inr (subst (λ (t : List ℕ). IsBookText t next) (sym after) loses.is_text)
      ] in
      subst
      (λ (b : BookFields). IsLostAfter IsStored accounts (call_of (hears event moment) (judged_lines moment sent NotSaved) ∷ calls) b now)
      (sym same) (record {
        failed = lost.failed;
        attempt = account_attempt_of name moment sent reply;
        next = next;
        is_latest = (
          at,
          run,
          record { event = event; answer = said halt; is_request = refl; place = here; lines_are = refl; to_save = needs },
        );
        is_judged = one;
        asked = subst (λ (t : List ℕ). IsBookText t next) (sym lost.begun.asked) loses.is_text;
        saved = of_old;
        before = (was.saved, held.saved, held.stored);
      })
