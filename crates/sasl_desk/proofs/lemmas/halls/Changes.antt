-- What was spent stays spent over runs of desks and halls, one after another, and over what is done with the book between them.
use Rattle.std.proofs.Common.{ℕ, List, [], ◌∷◌, ◌++◌, reverse, refl, sym, subst, append_assoc}
use Rattle.book_format.specs.Laws.{HasOneBook}
use Rattle.account_book.specs.{BookFields, IsBookText}
use Rattle.account_book.specs.Store.{StoreFacts}
use Rattle.account_book.specs.AccountAttempt.{AccountAttempt}
use Rattle.account_book.specs.Spent.{AreSpent, spent_by, spent_by_all}
use Rattle.log_grammar.specs.Books.{accounts_in}
use Rattle.log_grammar.specs.Versions.{max_open_sessions}
use Rattle.sasl_desk.specs.Runs.{run_lines}
use Rattle.sasl_desk.specs.Halls.{hall_lines}
use Rattle.sasl_desk.specs.Stops.{MayBeLeft}
use Rattle.sasl_desk.specs.Changes.{Change, desk_ran, hall_ran, unbegun, judged, unlocked, added}
use Rattle.sasl_desk.specs.Changes.{IsChange, AreChanges, AreUsedByChange, AreUsedByChanges}
use Rattle.sasl_desk.proofs.lemmas.runs.Spent.{spent_stays_spent}
use Rattle.sasl_desk.proofs.lemmas.runs.Passes.{told_counters_are_passed, told_counters_are_passed_under_numbers}
use Rattle.sasl_desk.proofs.lemmas.runs.Stores.{HoldsTold, told_counters_are_saved, desk_holds_told, unbegun_text_is_of_book}
use Rattle.sasl_desk.proofs.lemmas.runs.Unlocks.{unlock_keeps_spent_counters, addition_keeps_spent_counters}
use Rattle.sasl_desk.proofs.lemmas.halls.Stores.{hall_holds_told}

-- a text is that of at most one book
module _ (one : HasOneBook) where
  -- what was spent before a run, and what its replies used, is spent in the book as which the text is read that the run left
  run_spends_counters : {IsStored : List ℕ → Type 0} {start kept : BookFields} {told : List AccountAttempt} {store : StoreFacts}
      → HoldsTold IsStored start told kept store → (ps : List (List ℕ × ℕ)) → AreSpent ps start
      → (text : List ℕ) → MayBeLeft kept store text → (left : BookFields) → IsBookText text left
      → AreSpent (spent_by_all (reverse told) ++ ps) left
  run_spends_counters {told = told} holds ps spent text stopped left is_text =
      let (saved, is, counters) = (told_counters_are_saved holds).left ps text spent stopped in
      subst (λ (b : BookFields). AreSpent (spent_by_all (reverse told) ++ ps) b) (one text saved left is is_text) counters

  -- changes with stores whose facts are these
  module _ {S : Type 0} (facts : S → StoreFacts) (IsStored : List ℕ → Type 0) where
    -- a change uses some counters, and what was spent before it and what it uses is spent in the book after it
    change_spends_counters : (c : Change) (old new : BookFields) (ps : List (List ℕ × ℕ)) → IsChange facts IsStored c old new
        → AreSpent ps old → (used : List (List ℕ × ℕ)) × AreUsedByChange c used × AreSpent (used ++ ps) new
    change_spends_counters (desk_ran r) old new ps (run, start, left) spent =
        let s = run.stands in
        let used = spent_by_all (reverse s.told) in
        let here = subst (λ (b : BookFields). AreSpent ps b) (sym start) spent in (
          used,
          told_counters_are_passed (accounts_in r.start) (run_lines r.calls) s.place s.told s.begins,
          subst (λ (b : BookFields). AreSpent (used ++ ps) b) left
              (run_spends_counters (desk_holds_told s) ps here run.text run.stopped r.left run.leaves),
        )
    change_spends_counters (hall_ran r) old new ps (run, start, left) spent =
        let s = run.stands in
        let used = spent_by_all (reverse s.told) in
        let here = subst (λ (b : BookFields). AreSpent ps b) (sym start) spent in (
          used,
          told_counters_are_passed_under_numbers max_open_sessions (accounts_in r.start) (hall_lines r.calls) s.places s.told s.begins,
          subst (λ (b : BookFields). AreSpent (used ++ ps) b) left
              (run_spends_counters (hall_holds_told s) ps here run.text run.stopped r.left run.leaves),
        )
    change_spends_counters unbegun old new ps stopped spent =
        let of_old = unbegun_text_is_of_book old stopped.store stopped.working stopped.read stopped.text stopped.stopped in
        ([], refl, subst (λ (b : BookFields). AreSpent ps b) (one stopped.text old new of_old stopped.leaves) spent)
    change_spends_counters (judged t) old new ps attempt spent = (spent_by t, refl, spent_stays_spent old new t ps attempt spent)
    change_spends_counters (unlocked name) old new ps changed spent =
        ([], refl, unlock_keeps_spent_counters old new name ps changed spent)
    change_spends_counters (added name account) old new ps is spent =
        ([], refl, addition_keeps_spent_counters old new name account ps is spent)

    -- the law: any number of changes use some counters, and what was spent before them and what they use is spent in the book after them
    pub no_counter_passes_twice : (first : BookFields) (changes : List Change) (last : BookFields) (ps : List (List ℕ × ℕ))
        → AreChanges facts IsStored first changes last → AreSpent ps first
        → (used : List (List ℕ × ℕ)) × AreUsedByChanges changes used × AreSpent (used ++ ps) last
    no_counter_passes_twice first [] last ps same spent = ([], refl, subst (λ (b : BookFields). AreSpent ps b) (sym same) spent)
    no_counter_passes_twice first (c ∷ before) last ps (middle, earlier, change) spent =
        let (used, by_earlier, until) = no_counter_passes_twice first before middle ps earlier spent in
        let (own, by_change, all) = change_spends_counters c middle last (used ++ ps) change until in (
          own ++ used,
          (own, used, by_change, by_earlier, refl),
          subst (λ (l : List (List ℕ × ℕ)). AreSpent l last) (sym (append_assoc own used ps)) all,
        )
