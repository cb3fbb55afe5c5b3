-- The log of a hall: it is a front, and clean when no session is open, when the store has failed, and after `S HALT`; and its bytes
-- and lines are those of the hall's calls.
use Rattle.std.proofs.Common.{◌≡◌, inl, inr, Bool, true, false, ℕ, List, [], ◌∷◌, ◌++◌, map, refl, sym, ◌∙◌, subst, append-nil}
use Rattle.std.specs.List.{AllByRecursion, AllZip, find}
use Rattle.std.specs.declared.option.Option.{Option}
use Rattle.std.specs.declared.option.Option.TheVariants.{None, Some}
use Rattle.scram_text.specs.SplitLines.{ended_by_lf, IsSplit}
use Rattle.scram_text.proofs.lemmas.SplitLines.{ended_by_lf-append}
use Rattle.account_book.specs.{BookFields}
use Rattle.account_book.specs.Store.{StoreFacts}
use Rattle.log_grammar.specs.Books.{accounts_in}
use Rattle.log_grammar.specs.Versions.{max_open_sessions, IsLogFront, IsClean}
use Rattle.log_grammar.specs.Lines.{LogLine, header_two, said, halt, log_line_text}
use Rattle.log_grammar.specs.Places.{Place}
use Rattle.log_grammar.specs.Demands.{Accounts, demands}
use Rattle.log_grammar.specs.Numbered.{Numbered, numbered, of_number, IsNumberedLogUpTo, MayEndNumbered}
use Rattle.log_grammar.specs.NumberedLines.{numbered_text, IsNumberedLine, IsNumberedLineWritable}
use Rattle.log_grammar.proofs.lemmas.many_sessions.WithoutLast.{numbered_log_has_last_transition}
use Rattle.log_grammar.proofs.lemmas.lines.NumberedReadBack.{numbered_line_lacks_lf}
use Rattle.log_grammar.proofs.lemmas.lines.ReadAndWritten.{writable_lines_are_read, writable_lines_lack_lf}
use Rattle.log_grammar.proofs.lemmas.many_sessions.HaltAndBusy.{visit_halt_leads_to_halted}
use Rattle.sasl_desk.specs.OpenSessions.{has_number}
use Rattle.sasl_desk.specs.Halls.{HallFields, hall_lines, hall_bytes, IsStoredAfter, IsHallAfter, phase_after_halt, phase_of_number}
use Rattle.sasl_desk.specs.Runs.{Call}
use Rattle.sasl_desk.specs.declared.hall.open_session.OpenSession.{OpenSession}
use Rattle.sasl_desk.proofs.lemmas.runs.HeldBooks.{failed_store_means_halted}
use Rattle.sasl_desk.proofs.lemmas.halls.Phases.{number_without_open_session_is_between}

-- the log of a hall is cut into its first line and the texts of its calls' lines, if these can be written
hall_log_is_split : (calls : List (Numbered Call)) → AllByRecursion IsNumberedLineWritable (hall_lines calls)
    → IsSplit (hall_bytes calls) (log_line_text header_two ∷ map numbered_text (hall_lines calls)) []
hall_log_is_split calls written = record {
  bytes_are = sym (append-nil (ended_by_lf (log_line_text header_two ∷ map numbered_text (hall_lines calls)))
      ∙ ended_by_lf-append (log_line_text header_two ∷ []) (map numbered_text (hall_lines calls)));
  lines = (refl, writable_lines_lack_lf IsNumberedLine numbered_text numbered_line_lacks_lf (hall_lines calls) written);
  after = refl;
}

-- a number without a phase has no open session
number_without_phase_has_no_open_session : (is_halted : Bool) (open_session : Option OpenSession)
    → phase_after_halt is_halted open_session ≡ None → open_session ≡ None
number_without_phase_has_no_open_session is_halted None is = refl
number_without_phase_has_no_open_session true (Some open_session) is = absurd (cc is)
number_without_phase_has_no_open_session false (Some open_session) is = absurd (cc is)

-- after calls at whose end the store has failed, a log may end
failed_store_lets_end : (IsStored : List ℕ → Type 0) (accounts : Accounts) (calls : List (Numbered Call)) (places : ℕ → Place)
    (book : BookFields) (store : StoreFacts) → IsStoredAfter IsStored accounts calls places book store → store.failed ≡ true
    → MayEndNumbered places
failed_store_lets_end IsStored accounts [] places book store held failed = absurd (cc (held.working, failed))
failed_store_lets_end IsStored accounts (c ∷ calls) places book store stored failed =
    inr (
      c.number,
      failed_store_means_halted IsStored accounts (of_number c.number (c ∷ calls)) book store (places c.number) stored failed,
    )

-- a hall that has answered these calls
module _ {S : Type 0} {facts : S → StoreFacts} {IsStored : List ℕ → Type 0} {start : BookFields} {calls : List (Numbered Call)}
    {hall : HallFields S} (s : IsHallAfter facts IsStored start calls hall) where
  -- the lines of a hall's log are read from its texts
  hall_lines_are_read : AllZip IsNumberedLine (map numbered_text (hall_lines calls)) (hall_lines calls)
  hall_lines_are_read = writable_lines_are_read IsNumberedLine numbered_text (hall_lines calls) s.writable

  -- the law: the log of a hall is a front: a clean log may begin with it, also while sessions are open
  pub log_is_a_front : IsLogFront (accounts_in start) (hall_bytes calls)
  log_is_a_front = (
    log_line_text header_two ∷ map numbered_text (hall_lines calls),
    hall_log_is_split calls s.writable,
    inr (refl, hall_lines calls, s.places, s.told, hall_lines_are_read, s.begins),
  )

  -- the log of a hall is clean if the places of its sessions let it end
  ended_hall_log_is_clean : MayEndNumbered s.places → IsClean (accounts_in start) (hall_bytes calls)
  ended_hall_log_is_clean ends = (
    log_line_text header_two ∷ map numbered_text (hall_lines calls),
    hall_log_is_split calls s.writable,
    inr (refl, hall_lines calls, s.places, s.told, hall_lines_are_read, s.begins, ends),
  )

  -- the law: the log of a hall is clean when no session is open
  pub log_is_clean_closed : ((n : ℕ) → phase_of_number hall n ≡ None) → IsClean (accounts_in start) (hall_bytes calls)
  log_is_clean_closed none =
      ended_hall_log_is_clean
      (inl (λ n. number_without_open_session_is_between s n
      (number_without_phase_has_no_open_session hall.is_halted (find (has_number n) hall.open_sessions) (none n))))

  -- the law: the log of a hall is clean when the store has failed
  pub log_is_clean_failed : (facts hall.keeper.store).failed ≡ true → IsClean (accounts_in start) (hall_bytes calls)
  log_is_clean_failed failed =
      ended_hall_log_is_clean
      (failed_store_lets_end IsStored (accounts_in start) calls s.places hall.keeper.book (facts hall.keeper.store) s.is_stored failed)

  -- the law: the log of a hall is clean when its last line is `S HALT`
  pub log_is_clean_halted : (lines : List (Numbered LogLine)) (n : ℕ) → hall_lines calls ≡ lines ++ numbered n (said halt) ∷ []
      → IsClean (accounts_in start) (hall_bytes calls)
  log_is_clean_halted lines n last =
      let d = demands (accounts_in start) in
      let b = numbered_log_has_last_transition max_open_sessions d lines n (said halt) s.places s.told
      (subst (λ (l : List (Numbered LogLine)). IsNumberedLogUpTo max_open_sessions d l s.places s.told) last s.begins) in
      ended_hall_log_is_clean (inr (n, visit_halt_leads_to_halted d (b.before n) (said halt) (s.places n) refl b.goes.goes))
