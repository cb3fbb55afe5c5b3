-- Each turn of a session is a step of its hall: an answer of the session, a code with its reply, or a code whose save failed.
use Rattle.std.proofs.Common.{◌≡◌, inl, inr, false, ℕ, List, [], ◌∷◌, ◌++◌, reverse, refl, sym, subst}
use Rattle.std.specs.declared.option.Option.{Option}
use Rattle.std.specs.declared.option.Option.TheVariants.{None, Some}
use Rattle.otp_core.specs.Attempt.{CodeTexts}
use Rattle.account_book.specs.{BookFields}
use Rattle.account_book.specs.SavedBooks.{needs_save}
use Rattle.account_book.specs.Store.{StoreFacts}
use Rattle.account_book.specs.AccountAttempt.{account_attempt_of}
use Rattle.account_book.specs.Tokens.{IsBookAfterAttempts}
use Rattle.book_keeper.specs.Keeper.{IsCodeJudged}
use Rattle.book_keeper.specs.declared.keeper.Keeper.{Keeper}
use Rattle.book_keeper.specs.declared.keeper.CodeJudged.{CodeJudged}
use Rattle.book_keeper.specs.declared.keeper.CodeJudged.TheVariants.{Replied, NotSaved}
use Rattle.log_grammar.specs.Books.{accounts_in}
use Rattle.log_grammar.specs.Lines.{LogLine, heard, code_line, IsLogLineWritable}
use Rattle.log_grammar.specs.Places.{Place, waits_code, halted}
use Rattle.log_grammar.specs.Demands.{Accounts, demands}
use Rattle.log_grammar.specs.Numbered.{Numbered, of_number}
use Rattle.log_grammar.specs.Versions.{max_open_sessions}
use Rattle.log_grammar.proofs.lemmas.lines.LackLf.{reply_is_writable}
use Rattle.log_grammar.proofs.lemmas.lines.Written.{halt_is_writable}
use Rattle.sasl_log.proofs.lemmas.steps.Tokens.{book_reply_is_due}
use Rattle.sasl_desk.specs.Events.{ClientEvent}
use Rattle.sasl_desk.specs.Halls.{hall_of, hall_lines, IsHallAfter}
use Rattle.sasl_desk.specs.Runs.{hears, Call, call_of, server_nonce_of}
use Rattle.sasl_desk.specs.inner.SessionTurns.{IsLeftAt, IsDueCode, turn_lines}
use Rattle.sasl_desk.specs.inner.TurnResults.{after_turn_of, judged_lines, after_judged, SessionAnswers, IsTurnOf}
use Rattle.sasl_desk.specs.declared.hall.open_session.OpenSession.{OpenSession}
use Rattle.sasl_desk.specs.declared.session.Session.{Session}
use Rattle.sasl_desk.specs.declared.turn.AfterTurn.{AfterTurn}
use Rattle.sasl_desk.proofs.lemmas.halls.OpenSessions.{open_session_of}
use Rattle.sasl_desk.proofs.lemmas.turns.Keepers.{judged_reply_is_in_range}
use Rattle.sasl_desk.proofs.lemmas.turns.Paths.{session_has_client_turn, left_place_is_not_halted, turn_has_no_reply}
use Rattle.sasl_desk.proofs.lemmas.turns.Taken.{session_turn_is_taken, reply_turn_is_taken, halt_turn_is_taken}
use Rattle.sasl_desk.proofs.lemmas.runs.HeldBooks.{held_book_fits_place, kept_store_holds_book, lost_save_fits_halt}
use Rattle.sasl_desk.proofs.lemmas.runs.BooksAfterReplies.{book_after_told, reply_adds_to_book}
use Rattle.sasl_desk.proofs.lemmas.halls.Paths.{ends_of, turn_has_turn_lines, turn_closes_its_session, numbered_goes_on_by_path}
use Rattle.sasl_desk.proofs.lemmas.halls.Paths.{numbered_goes_on_by_reply}
use Rattle.sasl_desk.proofs.lemmas.halls.OpenAfterTurns.{LeavesSession}
use Rattle.sasl_desk.proofs.lemmas.halls.Turns.{IsHallStep}
use Rattle.sasl_desk.proofs.lemmas.halls.Working.{any_line_follows_log, working_hall_holds_book, client_turn_is_open, open_session_has_run}

-- a turn that leaves its session at a place, or ends it, leaves it so in a hall
left_session_leaves_place : (accounts : Accounts) (next : Place) (ends : ℕ) (session : Option Session) → IsLeftAt accounts next session
    → ends ≡ ends_of session
    → LeavesSession accounts next ends (after_turn_of session)
left_session_leaves_place accounts next ends (Some session) is same = (is, same)
left_session_leaves_place accounts next ends None is same = (is, same)

-- a hall in which the open session of this number takes a turn, on this event and at this moment
module _ {S : Type 0} {facts : S → StoreFacts} {IsStored : List ℕ → Type 0} {start : BookFields}
    {calls : List (Numbered Call)} {old : Keeper S} {n : ℕ} {session : Session} {server_nonce : List ℕ} {others : List OpenSession}
    {given : ℕ}
    (s : IsHallAfter facts IsStored start calls (hall_of old (open_session_of n session server_nonce ∷ others) given false))
    (event : ClientEvent)
    (moment : ℕ) where
  -- a turn that the session itself answers is a step of the hall
  answer_is_hall_step : (lines : List LogLine) (left : AfterTurn) (new : Keeper S)
      → SessionAnswers old session server_nonce event lines left new → IsHallStep s event moment lines left new
  answer_is_hall_step lines left new t =
      let accounts = accounts_in start in
      let (is, same) = (s.standing refl).0 in
      let turn = t.hears accounts (s.places n) (book_after_told start s.told old.book s.is_book).entries is in
      let next = turn.is_answer.next in
      let lines = turn_lines t.turn t.message in
      let taken = session_turn_is_taken accounts (server_nonce_of (of_number n calls)) event moment (s.places n) server_nonce session t.turn
      t.message same is turn in
      rw (t.lines_are, t.is_left, t.same) (record {
        next = next;
        told = s.told;
        taken = taken;
        begins = numbered_goes_on_by_path max_open_sessions (demands accounts) (hall_lines calls) s.places s.told n lines next s.begins
            (turn_has_turn_lines t.turn t.message)
            (turn_has_no_reply accounts server_nonce event (s.places n) t.turn t.message turn)
            (λ line to goes. any_line_follows_log s refl n line) taken.path;
        turns = turn_has_turn_lines t.turn t.message;
        writable = rw t.lines_are at t.writable;
        leaves = left_session_leaves_place accounts next _ t.turn.answer.session turn.is_answer.left
            (turn_closes_its_session n t.turn t.message);
        is_book = s.is_book;
        stored = held_book_fits_place IsStored accounts (call_of (hears event moment) lines ∷ of_number n calls) old.book
            (facts old.store) next (left_place_is_not_halted accounts next t.turn.answer.session turn.is_answer.left)
            (working_hall_holds_book s refl);
      })

  -- a turn in which the keeper judged a code, or two in a row, or lost the save for it, is a step of the hall
  code_is_hall_step : (name : List ℕ) (sent : CodeTexts) (new : Keeper S) → IsDueCode event (s.places n) name sent
      → IsLogLineWritable (heard (code_line sent)) → (judged : CodeJudged)
      → IsCodeJudged IsStored old.book (facts old.store) name moment sent judged new.book (facts new.store)
      → IsHallStep s event moment (judged_lines moment sent judged) (after_judged name judged) new
  code_is_hall_step name sent new due written (Replied reply) (one, kept) =
      let accounts = accounts_in start in
      let t = account_attempt_of name moment sent reply in
      record {
        next = waits_code name;
        told = s.told ++ t ∷ [];
        taken = reply_turn_is_taken accounts (server_nonce_of (of_number n calls)) event moment (s.places n) name sent reply due;
        begins = numbered_goes_on_by_reply s.begins n name sent moment reply (any_line_follows_log s refl n) due.place
            (book_reply_is_due accounts s.told old.book t new.book one (book_after_told start s.told old.book s.is_book));
        turns = (tt, (tt, tt));
        writable = (written, (reply_is_writable moment reply one.is_moment (judged_reply_is_in_range old.book t new.book one), tt));
        leaves = (refl, refl);
        is_book = reply_adds_to_book start old.book new.book s.told t s.is_book one;
        stored = kept_store_holds_book IsStored (needs_save reply) old.book new.book (facts old.store) (facts new.store) kept
            (working_hall_holds_book s refl);
      }
  code_is_hall_step name sent new due written NotSaved judged =
      let accounts = accounts_in start in
      let lines = judged_lines moment sent NotSaved in
      let taken = halt_turn_is_taken accounts (server_nonce_of (of_number n calls)) event moment (s.places n) name sent due in
      let is_open = client_turn_is_open (s.places n) (session_has_client_turn accounts (s.places n) session (s.standing refl).0.0) in
      let run = open_session_has_run accounts (of_number n calls) (s.places n) is_open (s.session_runs n) in
      record {
        next = halted;
        told = s.told;
        taken = taken;
        begins = numbered_goes_on_by_path max_open_sessions (demands accounts) (hall_lines calls) s.places s.told n lines halted s.begins
            (tt, (tt, tt)) (tt, (tt, tt)) (λ line to goes. any_line_follows_log s refl n line) taken.path;
        turns = (tt, (tt, tt));
        writable = (written, (halt_is_writable, tt));
        leaves = (refl, refl);
        is_book = subst (λ (b : BookFields). IsBookAfterAttempts start (reverse s.told) b) (sym judged.0) s.is_book;
        stored = lost_save_fits_halt IsStored accounts (of_number n calls) (s.places n) old.book new.book (facts old.store)
            (facts new.store) name event moment sent run due.place (working_hall_holds_book s refl) judged;
      }

  -- each turn of a session is a step of its hall
  pub turn_is_hall_step : (lines : List LogLine) (left : AfterTurn) (new : Keeper S)
      → IsTurnOf facts IsStored old session server_nonce event moment lines left new → IsHallStep s event moment lines left new
  turn_is_hall_step lines left new (inl t) = answer_is_hall_step lines left new t
  turn_is_hall_step lines left new (inr (name, sent, asked, t)) =
      let after = book_after_told start s.told old.book s.is_book in
      let due = asked.asks (accounts_in start) (s.places n) after.entries (s.standing refl).0.0 in
      rw (t.lines_are, t.is_left) (code_is_hall_step name sent new due asked.writable t.judged t.is_judged)
