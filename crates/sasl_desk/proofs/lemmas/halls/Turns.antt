-- What a hall stands for after a session of it took a turn.
use Rattle.std.proofs.Common.{◌≡◌, inl, false, ℕ, List, [], ◌∷◌, ◌++◌, map, reverse, refl, sym, ◌∙◌, ap, subst, arith}
use Rattle.std.specs.Prelude.{count_by}
use Rattle.std.specs.List.{AllByRecursion}
use Rattle.scram_text.proofs.lemmas.ListEnds.{appended_lists_keep_all}
use Rattle.account_book.specs.{BookFields}
use Rattle.account_book.specs.Store.{StoreFacts}
use Rattle.account_book.specs.AccountAttempt.{AccountAttempt}
use Rattle.account_book.specs.Tokens.{IsBookAfterAttempts}
use Rattle.book_keeper.specs.declared.keeper.Keeper.{Keeper}
use Rattle.log_grammar.specs.Books.{accounts_in}
use Rattle.log_grammar.specs.Lines.{LogLine}
use Rattle.log_grammar.specs.Places.{Place, open_at}
use Rattle.log_grammar.specs.Demands.{demands}
use Rattle.log_grammar.specs.Numbered.{Numbered, numbered, of_number, closed_in, IsNumberedLogUpTo}
use Rattle.log_grammar.specs.NumberedLines.{IsSessionNumber, IsNumberedLineWritable}
use Rattle.log_grammar.specs.Versions.{max_open_sessions}
use Rattle.log_grammar.specs.state_machine.NumberedSteps.{put}
use Rattle.log_grammar.proofs.lemmas.many_sessions.OpenCounts.{open_number_is_in_range}
use Rattle.log_grammar.proofs.lemmas.many_sessions.LinesOfNumber.{one_and_others_cover_each, put_sets_own, put_keeps_others, given_in-append}
use Rattle.log_grammar.proofs.lemmas.many_sessions.LinesOfNumber.{closed_in-append}
use Rattle.sasl_desk.specs.Desks.{IsStoredAt}
use Rattle.sasl_desk.specs.Events.{ClientEvent}
use Rattle.sasl_desk.specs.OpenSessions.{has_number}
use Rattle.sasl_desk.specs.Halls.{hall_of, hall_lines, IsHallAfter}
use Rattle.sasl_desk.specs.Runs.{hears, Call, call_of, server_nonce_of, IsTurnTaken}
use Rattle.sasl_desk.specs.Sessions.{CanBeWritten}
use Rattle.sasl_desk.specs.declared.hall.open_session.OpenSession.{OpenSession}
use Rattle.sasl_desk.specs.declared.session.Session.{Session}
use Rattle.sasl_desk.specs.declared.turn.AfterTurn.{AfterTurn}
use Rattle.sasl_desk.proofs.lemmas.turns.Paths.{session_has_client_turn}
use Rattle.sasl_desk.proofs.lemmas.turns.Saves.{halted_after}
use Rattle.sasl_desk.proofs.lemmas.halls.OpenSessions.{own_open_session_counts, other_open_session_is_not_counted, open_sessions_are_of_others, open_session_of}
use Rattle.sasl_desk.proofs.lemmas.halls.Paths.{IsTurnLine, turn_line_may_have_number, turn_gives_no_number}
use Rattle.sasl_desk.proofs.lemmas.halls.OpenAfterTurns.{LeavesSession, open_sessions_after, still_open_counts_open, is_open_or_ended}
use Rattle.sasl_desk.proofs.lemmas.halls.OpenAfterTurns.{turn_adds_what_is_still_open, own_sessions_count}
use Rattle.sasl_desk.proofs.lemmas.halls.OpenAfterTurns.{other_counts_stay, turn_leaves_sessions_standing}
use Rattle.sasl_desk.proofs.lemmas.halls.Numbers.{own_item_comes_first, other_item_is_skipped, each_session_has_run, store_fits_next_call}
use Rattle.sasl_desk.proofs.lemmas.halls.Numbers.{other_open_sessions_stay}
use Rattle.sasl_desk.proofs.lemmas.halls.Working.{open_place_counts_one, client_turn_is_open, open_session_has_run}

-- lines of a turn that can be written can be written under a session's number too
pub numbered_turn_is_writable : (n : ℕ) → IsSessionNumber n → (lines : List LogLine) → AllByRecursion IsTurnLine lines → CanBeWritten lines
    → AllByRecursion IsNumberedLineWritable (map (numbered n) lines)
numbered_turn_is_writable n number [] turns written = tt
numbered_turn_is_writable n number (line ∷ lines) turns written = (
  record {
    spelled = refl;
    number = number;
    has_number = turn_line_may_have_number line turns.0;
    line = written.0;
  },
  numbered_turn_is_writable n number lines turns.1 written.1,
)

-- a hall in which the open session of this number takes a turn
module _ {S : Type 0} {facts : S → StoreFacts} {IsStored : List ℕ → Type 0} {start : BookFields} {calls : List (Numbered Call)}
    {old : Keeper S} {n : ℕ} {session : Session} {server_nonce : List ℕ} {others : List OpenSession} {given : ℕ}
    (s : IsHallAfter facts IsStored start calls (hall_of old (open_session_of n session server_nonce ∷ others) given false)) where
  -- what a hall's turn gives: the lines, the place to which they lead, and the keeper with which the hall goes on
  pub record IsHallStep (event : ClientEvent) (moment : ℕ) (lines : List LogLine) (left : AfterTurn) (new : Keeper S) : Type 0 where
    -- the place to which the turn leads
    pub next : Place
    -- the replies that the hall's log records, with those of the turn
    pub told : List AccountAttempt
    -- the lines are the turn that the session takes on the event
    pub taken : IsTurnTaken (accounts_in start) (server_nonce_of (of_number n calls)) event moment (s.places n) lines next
    -- the hall's log with these lines is one of version 2, which may be cut short, with the number at that place and the others as before
    pub begins : IsNumberedLogUpTo max_open_sessions (demands (accounts_in start)) (hall_lines calls ++ map (numbered n) lines)
        (put n next s.places) told
    -- no line is the first of a log or of a session
    pub turns : AllByRecursion IsTurnLine lines
    -- the lines can be written
    pub writable : CanBeWritten lines
    -- the session is left at that place
    pub leaves : LeavesSession (accounts_in start) next (closed_in (map (numbered n) lines)) left
    -- the new book is the one after these replies
    pub is_book : IsBookAfterAttempts start (reverse told) new.book
    -- the store holds what it has to hold when the session is at that place
    pub stored : IsStoredAt IsStored (accounts_in start) (call_of (hears event moment) lines ∷ of_number n calls) next new.book
        (facts new.store)

  -- after the turn the hall stands for one call more, and the session at the place to which the turn led
  pub step_adds_hall_call : (event : ClientEvent) (moment : ℕ) (lines : List LogLine) (left : AfterTurn) (new : Keeper S)
      (step : IsHallStep event moment lines left new)
      → (after : IsHallAfter facts IsStored start (numbered n (call_of (hears event moment) lines) ∷ calls)
      (hall_of new (open_sessions_after n server_nonce left others) given (halted_after left)))
      × (after.places n ≡ step.next)
  step_adds_hall_call event moment lines left new step =
      let accounts = accounts_in start in
      let call = call_of (hears event moment) lines in
      let open_session = open_session_of n session server_nonce in
      let places = put n step.next s.places in
      let here = put_sets_own n step.next s.places in
      let is = s.standing refl in
      let is_open = client_turn_is_open (s.places n) (session_has_client_turn accounts (s.places n) session is.0.0) in
      let range = open_number_is_in_range max_open_sessions (demands accounts) (hall_lines calls) s.places s.told s.begins n is_open in
      let number : IsSessionNumber n = (range.0, omega (arith, range.1, s.given, s.last_number)) in
      let counted = own_open_session_counts n open_session others refl in
      let alone : count_by (has_number n) others ≡ 0 = omega (arith, counted, s.open_sessions n, open_place_counts_one (s.places n) is_open) in
      let none = turn_gives_no_number n lines step.turns in
      let all_begun = given_in-append (hall_lines calls) (map (numbered n) lines) in
      let all_closed = closed_in-append (hall_lines calls) (map (numbered n) lines) in
      let leaves = subst (λ (p : Place). LeavesSession accounts p (closed_in (map (numbered n) lines)) left) (sym here) step.leaves in (
        record {
          places = places;
          told = step.told;
          session_runs = each_session_has_run n call calls step.next s.places accounts
              (inl (s.places n, open_session_has_run accounts (of_number n calls) (s.places n) is_open (s.session_runs n), step.taken))
              s.session_runs;
          fresh = λ m more. other_item_is_skipped n m call calls (λ same. omega (arith, same, more, range.1, none, all_begun))
              ∙ s.fresh m (omega (arith, more, none, all_begun));
          begins = step.begins;
          writable = appended_lists_keep_all IsNumberedLineWritable (hall_lines calls) (map (numbered n) lines) s.writable
              (numbered_turn_is_writable n number lines step.turns step.writable);
          given = omega (arith, s.given, none, all_begun);
          last_number = s.last_number;
          open_sessions = one_and_others_cover_each
              (λ (m : ℕ). count_by (has_number m) (open_sessions_after n server_nonce left others) ≡ open_at (places m)) n
              (own_sessions_count n server_nonce others left alone ∙ sym (still_open_counts_open accounts (places n) _ left leaves))
              (λ m other. other_counts_stay n server_nonce others m left other ∙ sym
              (other_open_session_is_not_counted m open_session others other)
              ∙ s.open_sessions m ∙ ap open_at (sym (put_keeps_others n step.next s.places m other)));
          counted = omega (
            arith,
            turn_adds_what_is_still_open n server_nonce others left,
            is_open_or_ended accounts step.next _ left step.leaves,
            s.counted,
            none,
            all_begun,
            all_closed,
          );
          standing = turn_leaves_sessions_standing n server_nonce others accounts (numbered n call ∷ calls) places _ left leaves
              (other_open_sessions_stay n call calls step.next s.places accounts others is.1 (open_sessions_are_of_others n others alone))
              (is.0.1 ∙ ap server_nonce_of (sym (own_item_comes_first n call calls)));
          is_book = step.is_book;
          is_stored = store_fits_next_call n call calls step.next s.places IsStored accounts new.book (facts new.store) step.stored;
        },
        here,
      )
