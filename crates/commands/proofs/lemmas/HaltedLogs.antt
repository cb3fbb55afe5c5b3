-- After a save that failed, the last line of a desk's or a hall's log is `S HALT`.
use Rattle.std.proofs.Common.{◌≡◌, inl, inr, ℕ, true, List, [], ◌∷◌, ◌++◌, refl, sym, ◌∙◌, ap, subst, append_assoc}
use Rattle.std.proofs.lemmas.Bool.Decides.{eqb_tells}
use Rattle.scram_text.proofs.lemmas.ListEnds.{nonempty_has_last}
use Rattle.account_book.specs.{BookFields}
use Rattle.account_book.specs.Store.{StoreFacts}
use Rattle.account_book.specs.AccountAttempt.{AccountAttempt}
use Rattle.log_grammar.specs.Books.{accounts_in}
use Rattle.log_grammar.specs.Lines.{LogLine, header_one, said, halt, log_bytes}
use Rattle.log_grammar.specs.Places.{Place, halted}
use Rattle.log_grammar.specs.Demands.{Accounts, Demands, demands}
use Rattle.log_grammar.specs.Begins.{Begins}
use Rattle.log_grammar.specs.Numbered.{Numbered, numbered, of_number, IsNumberedLogUpTo}
use Rattle.log_grammar.specs.Versions.{max_open_sessions}
use Rattle.log_grammar.specs.state_machine.Steps.{IsTransition}
use Rattle.log_grammar.specs.state_machine.NumberedSteps.{IsVisitTransition}
use Rattle.log_grammar.proofs.lemmas.ListEnds.{holds_by_last}
use Rattle.log_grammar.proofs.lemmas.many_sessions.OneReading.{empty_log_tells_nothing}
use Rattle.log_grammar.proofs.lemmas.many_sessions.WithoutLast.{numbered_log_has_last_transition}
use Rattle.log_grammar.proofs.lemmas.state_machine.LogSteps.{log_has_last_transition}
use Rattle.log_grammar.proofs.lemmas.state_machine.Transitions.{each_transition_holds}
use Rattle.sasl_desk.specs.Desks.{IsStoredAt, IsDeskAfter}
use Rattle.sasl_desk.specs.Halls.{HallFields, hall_lines, IsStoredAfter, IsHallAfter}
use Rattle.sasl_desk.specs.Runs.{Call, call_lines, run_lines}
use Rattle.sasl_desk.specs.declared.desk.Desk.{Desk}
use Rattle.commands.specs.PrintedLog.{HaltsNumberIfUnsaved}

-- a line that leads to the halted place is `S HALT`
abbrev HaltsOnlyByHalt : Place → LogLine → Place → Type 0
HaltsOnlyByHalt place line next = next ≡ halted → line ≡ said halt

-- only `S HALT` leads to the halted place
only_halt_leads_to_halted : (d : Demands) (place : Place) (line : LogLine) (next : Place) → IsTransition d place line next
    → HaltsOnlyByHalt place line next
only_halt_leads_to_halted d = each_transition_holds d HaltsOnlyByHalt (record {
  first_line = λ is. absurd (cc is);
  session = λ names may is. absurd (cc is);
  aborts = λ at turn is. absurd (cc is);
  sends_bad = λ at turn is. absurd (cc is);
  goes_away = λ at turn is. absurd (cc is);
  farewell = λ text may is. absurd (cc is);
  closed = λ is. absurd (cc is);
  without_first = λ m is. absurd (cc is);
  unoffered = λ m text may is. absurd (cc is);
  invited = λ m text may is. absurd (cc is);
  sends_first = λ m first is. absurd (cc is);
  with_first = λ m first is. absurd (cc is);
  refused = λ m first text may is. absurd (cc is);
  challenged = λ m account first challenge may is. absurd (cc is);
  sends_final = λ m account first challenge last is. absurd (cc is);
  denied = λ m account first challenge last text may is. absurd (cc is);
  granted = λ m account first challenge last text may is. absurd (cc is);
  sends_code = λ account text is. absurd (cc is);
  sends_two_codes = λ account one two is. absurd (cc is);
  replied = λ account sent moment reply is. absurd (cc is);
  halts = λ account sent is. refl;
})

-- only `S HALT` leads a number to the halted place
only_halt_leads_number_to_halted : (d : Demands) (place : Place) (line : LogLine) (next : Place) → IsVisitTransition d place line next
    → HaltsOnlyByHalt place line next
only_halt_leads_number_to_halted d place line next (inl goes) is = only_halt_leads_to_halted d place line next goes is
only_halt_leads_number_to_halted d place line next (inr away) is = let wrong = sym away.2 ∙ is in absurd (cc wrong)

-- a log that has led to the halted place ends with `S HALT`
halted_log_ends_with_halt : (d : Demands) (more : List LogLine) (place : Place) (told : List AccountAttempt)
    → Begins d (header_one ∷ more) place told → place ≡ halted → (before : List LogLine) × (header_one ∷ more ≡ before ++ said halt ∷ [])
halted_log_ends_with_halt d more place told begins at =
    let last = nonempty_has_last header_one more in
    let s = log_has_last_transition d last.0 last.1 place told (subst (λ (l : List LogLine). Begins d l place told) last.2 begins) in
    let is = only_halt_leads_to_halted d s.place last.1 place s.goes at in
    (last.0, last.2 ∙ ap (λ (l : LogLine). last.0 ++ l ∷ []) is)

-- if a number of a log stands at the halted place, the log ends with its `S HALT`
halted_number_ends_log : (limit : ℕ) (d : Demands) (log : List (Numbered LogLine)) (p : ℕ → Place) (told : List AccountAttempt)
    → IsNumberedLogUpTo limit d log p told → (n : ℕ) → p n ≡ halted
    → (before : List (Numbered LogLine)) × (log ≡ before ++ numbered n (said halt) ∷ [])
halted_number_ends_log limit d = holds_by_last
    (λ log. (p : ℕ → Place) (told : List AccountAttempt) → IsNumberedLogUpTo limit d log p told → (n : ℕ) → p n ≡ halted
    → (before : List (Numbered LogLine)) × (log ≡ before ++ numbered n (said halt) ∷ []))
    (λ p told s n at. let wrong = sym ((empty_log_tells_nothing limit d p told s).0 n) ∙ at in absurd (cc wrong))
    (λ log x earlier p told s n at.
    let m = x.number in
    let b = numbered_log_has_last_transition limit d log m x.value p told s in
    elim (eqb_tells m n) [
      | inl same ↦
          let here = subst (λ (k : ℕ). p k ≡ halted) (sym same.1) at in
          let is = only_halt_leads_number_to_halted d (b.before m) x.value (p m) b.goes.goes here in (
            log,
            ap (λ (l : LogLine). log ++ numbered m l ∷ []) is
                ∙ ap (λ (k : ℕ). log ++ numbered k (said halt) ∷ []) same.1,
          )
      | inr other ↦
          let was = earlier b.before b.told b.spells n (sym (b.others n other.1) ∙ at) in
          let whole = ap (λ (l : List (Numbered LogLine)). l ++ x ∷ []) was.1 ∙ append_assoc was.0 (numbered n (said halt) ∷ []) (x ∷ []) in
          absurd (s.sessions.next was.0 (numbered n (said halt)) x [] whole)
    ])

-- a store that has failed, at a place of a log
module _ (IsStored : List ℕ → Type 0) (accounts : Accounts) (book : BookFields) (store : StoreFacts) (failed : store.failed ≡ true) where
  -- the place is halted
  failed_store_is_at_halt : (calls : List Call) (place : Place) → IsStoredAt IsStored accounts calls place book store → place ≡ halted
  failed_store_is_at_halt calls halted lost = refl
  failed_store_is_at_halt calls place held = absurd (cc (held.working, failed))

  -- in a hall, the number of the latest call is halted
  failed_store_halts_number : (calls : List (Numbered Call)) (places : ℕ → Place)
      → IsStoredAfter IsStored accounts calls places book store → (n : ℕ) × (places n ≡ halted)
  failed_store_halts_number [] places held = absurd (cc (held.working, failed))
  failed_store_halts_number (c ∷ before) places stored =
      (c.number, failed_store_is_at_halt (of_number c.number (c ∷ before)) (places c.number) stored)

-- if the store of a desk has failed, its log ends with `S HALT`
pub failed_store_ends_desk_log : {S : Type 0} {facts : S → StoreFacts} {IsStored : List ℕ → Type 0} {start : BookFields} {calls : List Call}
    {desk : Desk S} → IsDeskAfter facts IsStored start calls desk → (facts desk.keeper.store).failed ≡ true
    → (before : List LogLine) × (log_bytes (run_lines calls) ≡ log_bytes (before ++ said halt ∷ []))
failed_store_ends_desk_log {facts = facts} {IsStored = IsStored} {start = start} {calls = calls} {desk = desk} s failed =
    let store = facts desk.keeper.store in
    let at = failed_store_is_at_halt IsStored (accounts_in start) desk.keeper.book store failed calls s.place s.is_stored in
    let last = halted_log_ends_with_halt (demands (accounts_in start)) (call_lines calls) s.place s.told s.begins at in
    (last.0, ap log_bytes last.1)

-- if the store of a hall has failed, its log ends with `S HALT`
pub failed_store_ends_hall_log : {S : Type 0} {facts : S → StoreFacts} {IsStored : List ℕ → Type 0} {start : BookFields}
    {calls : List (Numbered Call)} {hall : HallFields S} → IsHallAfter facts IsStored start calls hall
    → HaltsNumberIfUnsaved (facts hall.keeper.store) (hall_lines calls)
failed_store_ends_hall_log {facts = facts} {IsStored = IsStored} {start = start} {calls = calls} {hall = hall} s failed =
    let store = facts hall.keeper.store in
    let at = failed_store_halts_number IsStored (accounts_in start) hall.keeper.book store failed calls s.places s.is_stored in
    let d = demands (accounts_in start) in
    let last = halted_number_ends_log max_open_sessions d (hall_lines calls) s.places s.told s.begins at.0 at.1 in
    (last.0, at.0, last.1)
