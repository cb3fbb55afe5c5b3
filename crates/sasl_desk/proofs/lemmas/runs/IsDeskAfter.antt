-- What a desk stands for after each of its calls.
use Rattle.std.proofs.Common.{◌≡◌, inl, inr, ℕ, List, [], ◌∷◌, ◌++◌, reverse, refl, sym, subst, append-nil}
use Rattle.std.specs.declared.option.Option.{Option}
use Rattle.std.specs.declared.option.Option.TheVariants.{None, Some}
use Rattle.otp_core.specs.Attempt.{CodeTexts}
use Rattle.scram_text.proofs.lemmas.ListEnds.{appended_lists_keep_all}
use Rattle.account_book.specs.{BookFields}
use Rattle.account_book.specs.SavedBooks.{needs_save, SavesBook, HoldsBook}
use Rattle.account_book.specs.Store.{StoreFacts}
use Rattle.account_book.specs.AccountAttempt.{AccountAttempt, account_attempt_of}
use Rattle.account_book.specs.Tokens.{IsBookAfterAttempts}
use Rattle.book_keeper.specs.Keeper.{IsCodeJudged}
use Rattle.book_keeper.specs.declared.keeper.Keeper.{Keeper}
use Rattle.book_keeper.specs.declared.keeper.CodeJudged.{CodeJudged}
use Rattle.book_keeper.specs.declared.keeper.CodeJudged.TheVariants.{Replied, NotSaved}
use Rattle.log_grammar.specs.Books.{accounts_in}
use Rattle.log_grammar.specs.Lines.{LogLine, header_one, said, heard, mechs, code_line, IsLogLineWritable}
use Rattle.log_grammar.specs.Words.{offered_names}
use Rattle.log_grammar.specs.Places.{Place, before_all, between, offered, waits_code, halted}
use Rattle.log_grammar.specs.Demands.{Accounts, demands}
use Rattle.log_grammar.specs.Begins.{Begins}
use Rattle.log_grammar.proofs.lemmas.lines.LackLf.{reply_is_writable}
use Rattle.log_grammar.proofs.lemmas.state_machine.LogSteps.{log_goes_on}
use Rattle.log_grammar.proofs.lemmas.lines.Written.{offer_is_writable, header_is_writable, halt_is_writable}
use Rattle.sasl_log.proofs.lemmas.steps.Tokens.{book_reply_is_due}
use Rattle.sasl_desk.specs.Events.{ClientEvent}
use Rattle.sasl_desk.specs.inner.SessionTurns.{IsLeftAt, IsDueCode, turn_lines}
use Rattle.sasl_desk.specs.Runs.{greets, hears, Call, call_of, run_lines, server_nonce_of}
use Rattle.sasl_desk.specs.inner.TurnResults.{after_turn_of, judged_lines, after_judged, SessionAnswers, IsTurnOf}
use Rattle.sasl_desk.specs.Desks.{IsStateAt, IsStoredAt, IsDeskAfter, desk_of, state_after}
use Rattle.sasl_desk.specs.declared.desk.Desk.{Desk}
use Rattle.sasl_desk.specs.declared.desk.state.State.TheVariants.{Closed, Open, Halted}
use Rattle.sasl_desk.specs.declared.session.Session.{Session}
use Rattle.sasl_desk.specs.declared.session.Session.TheVariants.{WaitAuth}
use Rattle.sasl_desk.specs.declared.turn.AfterTurn.{AfterTurn}
use Rattle.sasl_desk.proofs.lemmas.turns.Keepers.{judged_reply_is_in_range}
use Rattle.sasl_desk.proofs.lemmas.turns.Paths.{session_has_client_turn, left_place_is_not_halted, turn_has_no_reply, log_goes_on_by_path}
use Rattle.sasl_desk.proofs.lemmas.turns.Paths.{log_goes_on_by_reply}
use Rattle.sasl_desk.proofs.lemmas.turns.Taken.{session_turn_is_taken, reply_turn_is_taken, halt_turn_is_taken}
use Rattle.sasl_desk.proofs.lemmas.runs.HeldBooks.{saved_store_holds_book, kept_store_holds_book, client_turn_store_holds_book, held_book_fits_place}
use Rattle.sasl_desk.proofs.lemmas.runs.HeldBooks.{lost_save_fits_halt}
use Rattle.sasl_desk.proofs.lemmas.runs.BooksAfterReplies.{book_after_told, reply_adds_to_book}

-- after a turn that leaves its session at a place, its desk is in the state that is due there
left_desk_fits_place : (accounts : Accounts) (server_nonce kept : List ℕ) (at : Place) (session : Option Session) → kept ≡ server_nonce
    → IsLeftAt accounts at session
    → IsStateAt accounts server_nonce at (state_after (after_turn_of session) kept)
left_desk_fits_place accounts server_nonce kept at (Some session) same is = (is, same)
left_desk_fits_place accounts server_nonce kept at None same is = is

-- a desk that begins stands for a book that is its keeper's, and for no call
pub new_desk_stands_for_book : {S : Type 0} (facts : S → StoreFacts) (IsStored : List ℕ → Type 0) (book : BookFields) (keeper : Keeper S)
    (was : StoreFacts)
    → keeper.book ≡ book → SavesBook IsStored was book (facts keeper.store) → IsDeskAfter facts IsStored book [] (desk_of keeper Closed)
new_desk_stands_for_book facts IsStored book keeper was same holds = record {
  place = between;
  told = [];
  is_run = refl;
  begins = log_goes_on (demands (accounts_in book)) [] before_all [] header_one between (inl (refl, refl, refl)) refl tt;
  writable = (header_is_writable, tt);
  is_state = refl;
  is_book = same;
  is_stored = subst (λ (b : BookFields). HoldsBook IsStored b (facts keeper.store)) (sym same)
      (saved_store_holds_book IsStored book was (facts keeper.store) holds);
}

-- a closed desk
module _ {S : Type 0} {facts : S → StoreFacts} {IsStored : List ℕ → Type 0} {start : BookFields} {calls : List Call}
    {keeper : Keeper S} (server_nonce : List ℕ) (s : IsDeskAfter facts IsStored start calls (desk_of keeper Closed)) where
  -- a closed desk that greets a client stands for one call more, and its session is offered the mechanisms
  pub greeting_adds_desk_call : IsDeskAfter facts IsStored start (call_of (greets server_nonce) (said (mechs offered_names) ∷ []) ∷ calls)
      (desk_of keeper (Open WaitAuth server_nonce))
  greeting_adds_desk_call =
      let accounts = accounts_in start in
      let line = said (mechs offered_names) in
      let begins = subst (λ (p : Place). Begins (demands accounts) (run_lines calls) p s.told) s.is_state s.begins in
      let on = log_goes_on (demands accounts) (run_lines calls) between s.told line offered begins (refl, refl) tt in
      record {
        place = offered;
        told = s.told;
        is_run = (s.place, s.is_run, record { from = s.is_state; says = refl; waits = refl });
        begins = subst (λ (t : List AccountAttempt). Begins (demands accounts) (run_lines calls ++ line ∷ []) offered t) (append-nil s.told)
            on;
        writable = appended_lists_keep_all IsLogLineWritable (run_lines calls) (line ∷ []) s.writable (offer_is_writable, tt);
        is_state = (refl, refl);
        is_book = s.is_book;
        is_stored = subst (λ (p : Place). IsStoredAt IsStored accounts calls p keeper.book (facts keeper.store)) s.is_state s.is_stored;
      }

-- a desk with an open session
module _ {S : Type 0} {facts : S → StoreFacts} {IsStored : List ℕ → Type 0} {start : BookFields} {calls : List Call} {old : Keeper S}
    {session : Session} {server_nonce : List ℕ} (s : IsDeskAfter facts IsStored start calls (desk_of old (Open session server_nonce))) where
  -- the store of a desk with an open session holds the book
  pub open_desk_holds_book : HoldsBook IsStored old.book (facts old.store)
  open_desk_holds_book =
      client_turn_store_holds_book IsStored (accounts_in start) calls old.book (facts old.store) s.place
      (session_has_client_turn (accounts_in start) s.place session s.is_state.0) s.is_stored

  -- an event on which its session takes a turn
  module _ (event : ClientEvent) (moment : ℕ) where
    -- when the session has answered, the desk stands for one call more
    answer_adds_desk_call : (lines : List LogLine) (left : AfterTurn) (new : Keeper S)
        → SessionAnswers old session server_nonce event lines left new
        → IsDeskAfter facts IsStored start (call_of (hears event moment) lines ∷ calls) (desk_of new (state_after left server_nonce))
    answer_adds_desk_call lines left new t =
        let accounts = accounts_in start in
        let (is, same) = s.is_state in
        let turn = t.hears accounts s.place (book_after_told start s.told old.book s.is_book).entries is in
        let next = turn.is_answer.next in
        let lines = turn_lines t.turn t.message in
        let taken = session_turn_is_taken accounts (server_nonce_of calls) event moment s.place server_nonce session t.turn t.message same is
        turn in
        rw (t.same, t.is_left, t.lines_are) (record {
          place = next;
          told = s.told;
          is_run = (s.place, s.is_run, taken);
          begins = log_goes_on_by_path accounts (run_lines calls) s.place s.told lines next s.begins taken.path
              (turn_has_no_reply accounts server_nonce event s.place t.turn t.message turn);
          writable = appended_lists_keep_all IsLogLineWritable (run_lines calls) lines s.writable (rw t.lines_are at t.writable);
          is_state = left_desk_fits_place accounts (server_nonce_of calls) server_nonce next t.turn.answer.session same
              turn.is_answer.left;
          is_book = s.is_book;
          is_stored = held_book_fits_place IsStored accounts (call_of (hears event moment) lines ∷ calls) old.book (facts old.store) next
              (left_place_is_not_halted accounts next t.turn.answer.session turn.is_answer.left) open_desk_holds_book;
        })

    -- when the keeper has judged a code, or two in a row, or has lost the save for it, the desk stands for one call more
    code_adds_desk_call : (name : List ℕ) (sent : CodeTexts) (new : Keeper S) → IsDueCode event s.place name sent
        → IsLogLineWritable (heard (code_line sent)) → (judged : CodeJudged)
        → IsCodeJudged IsStored old.book (facts old.store) name moment sent judged new.book (facts new.store)
        → IsDeskAfter facts IsStored start (call_of (hears event moment) (judged_lines moment sent judged) ∷ calls)
        (desk_of new (state_after (after_judged name judged) server_nonce))
    code_adds_desk_call name sent new due written (Replied reply) (one, kept) =
        let accounts = accounts_in start in
        let t = account_attempt_of name moment sent reply in
        record {
          place = waits_code name;
          told = s.told ++ t ∷ [];
          is_run = (s.place, s.is_run, reply_turn_is_taken accounts (server_nonce_of calls) event moment s.place name sent reply due);
          begins = log_goes_on_by_reply accounts (run_lines calls) name s.told moment sent reply
              (subst (λ (p : Place). Begins (demands accounts) (run_lines calls) p s.told) due.place s.begins)
              (book_reply_is_due accounts s.told old.book t new.book one (book_after_told start s.told old.book s.is_book));
          writable = appended_lists_keep_all IsLogLineWritable (run_lines calls) (judged_lines moment sent (Replied reply)) s.writable
              (written, (reply_is_writable moment reply one.is_moment (judged_reply_is_in_range old.book t new.book one), tt));
          is_state = (refl, s.is_state.1);
          is_book = reply_adds_to_book start old.book new.book s.told t s.is_book one;
          is_stored = kept_store_holds_book IsStored (needs_save reply) old.book new.book (facts old.store) (facts new.store) kept
              open_desk_holds_book;
        }
    code_adds_desk_call name sent new due written NotSaved judged =
        let accounts = accounts_in start in
        let lines = judged_lines moment sent NotSaved in
        let taken = halt_turn_is_taken accounts (server_nonce_of calls) event moment s.place name sent due in
        record {
          place = halted;
          told = s.told;
          is_run = (s.place, s.is_run, taken);
          begins = log_goes_on_by_path accounts (run_lines calls) s.place s.told lines halted s.begins taken.path (tt, (tt, tt));
          writable = appended_lists_keep_all IsLogLineWritable (run_lines calls) lines s.writable (written, (halt_is_writable, tt));
          is_state = tt;
          is_book = subst (λ (b : BookFields). IsBookAfterAttempts start (reverse s.told) b) (sym judged.0) s.is_book;
          is_stored = lost_save_fits_halt IsStored accounts calls s.place old.book new.book (facts old.store) (facts new.store) name event
              moment sent s.is_run due.place open_desk_holds_book judged;
        }

    -- after each turn of its session the desk stands for one call more
    pub turn_adds_desk_call : (lines : List LogLine) (left : AfterTurn) (new : Keeper S)
        → IsTurnOf facts IsStored old session server_nonce event moment lines left new
        → IsDeskAfter facts IsStored start (call_of (hears event moment) lines ∷ calls) (desk_of new (state_after left server_nonce))
    turn_adds_desk_call lines left new (inl t) = answer_adds_desk_call lines left new t
    turn_adds_desk_call lines left new (inr (name, sent, asked, t)) =
        let after = book_after_told start s.told old.book s.is_book in
        let due = asked.asks (accounts_in start) s.place after.entries s.is_state.0 in
        rw (t.is_left, t.lines_are)
        (code_adds_desk_call name sent new due asked.writable t.judged t.is_judged)

-- a desk that is halted stands for the calls for which it stood
pub halted_desk_stands : {S : Type 0} {facts : S → StoreFacts} {IsStored : List ℕ → Type 0} {start : BookFields} {calls : List Call}
    {desk : Desk S} → IsDeskAfter facts IsStored start calls desk → IsDeskAfter facts IsStored start calls (desk_of desk.keeper Halted)
halted_desk_stands s = record {
  place = s.place;
  told = s.told;
  is_run = s.is_run;
  begins = s.begins;
  writable = s.writable;
  is_state = tt;
  is_book = s.is_book;
  is_stored = s.is_stored;
}
