-- A hall whose session took a turn has answered the call, in whichever order its open sessions stand.
use Rattle.std.proofs.Common.{◌≡◌, ◌↔◌, Bool, true, false, ℕ, List, [], ◌∷◌, ◌++◌, map, refl, sym, ◌∙◌, ap, subst, append_assoc}
use Rattle.std.specs.Prelude.{decimal}
use Rattle.std.specs.Str.{byte}
use Rattle.std.specs.List.Sorted.{IsPermutation}
use Rattle.std.proofs.lemmas.List.Sorted.{IsPermutation-trans}
use Rattle.std.specs.declared.option.Option.TheVariants.{Some}
use Rattle.scram_text.specs.SplitLines.{ended_by_lf}
use Rattle.scram_text.proofs.lemmas.ListEnds.{same_cons}
use Rattle.account_book.specs.{BookFields}
use Rattle.account_book.specs.Store.{StoreFacts}
use Rattle.book_keeper.specs.declared.keeper.Keeper.{Keeper}
use Rattle.log_grammar.specs.Books.{accounts_in}
use Rattle.log_grammar.specs.Lines.{LogLine, log_line_text}
use Rattle.log_grammar.specs.Places.{Place}
use Rattle.log_grammar.specs.Demands.{Accounts}
use Rattle.log_grammar.specs.Numbered.{Numbered, numbered}
use Rattle.log_grammar.specs.NumberedLines.{numbered_text}
use Rattle.sasl_desk.specs.Desks.{session_phase}
use Rattle.sasl_desk.specs.Events.{ClientEvent}
use Rattle.sasl_desk.specs.Halls.{HallFields, hall_of, numbered_bytes, IsHallAfter, IsPhaseOf, AnswersIn, IsSameHall}
use Rattle.sasl_desk.specs.inner.TurnResults.{IsTurnOf, IsTurnWritten}
use Rattle.sasl_desk.specs.inner.Prefix.{prefix, prefixed_bytes}
use Rattle.sasl_desk.specs.Runs.{Request, hears, Call, call_of}
use Rattle.sasl_desk.specs.declared.hall.open_session.OpenSession.{OpenSession}
use Rattle.sasl_desk.specs.declared.session.Session.{Session}
use Rattle.sasl_desk.specs.declared.session.phase.Phase.{Phase}
use Rattle.sasl_desk.specs.declared.session.phase.Phase.TheVariants as phase
use Rattle.sasl_desk.specs.declared.turn.AfterTurn.{AfterTurn}
use Rattle.sasl_desk.specs.declared.turn.AfterTurn.TheVariants.{Going, Closed, Halted}
use Rattle.sasl_desk.proofs.lemmas.halls.OpenSessions.{open_session_of}
use Rattle.sasl_desk.proofs.lemmas.turns.Saves.{halted_after, turn_counts_saves, turn_asks_for_save, turn_is_quiet, halting_turn_failed_saving, turn_says_halt}
use Rattle.sasl_desk.proofs.lemmas.runs.Calls.{open_session_is_not_halted}
use Rattle.sasl_desk.proofs.lemmas.halls.OpenAfterTurns.{LeavesSession, open_sessions_after}
use Rattle.sasl_desk.proofs.lemmas.halls.Phases.{session_phase_fits_place, returned_phase_is_kept}
use Rattle.sasl_desk.proofs.lemmas.halls.Steps.{turn_is_hall_step}
use Rattle.sasl_desk.proofs.lemmas.halls.Turns.{step_adds_hall_call}
use Rattle.sasl_desk.proofs.lemmas.halls.Working.{working_hall_holds_book, reordered_hall_stands}

-- lines written each after a number have the texts of that number's lines
prefixed_texts_are_numbered : (n : ℕ) (lines : List LogLine)
    → map (λ line. prefix (Some n) ++ log_line_text line) lines ≡ map numbered_text (map (numbered n) lines)
prefixed_texts_are_numbered n [] = refl
prefixed_texts_are_numbered n (line ∷ lines) =
    same_cons _ _ _ _ (append_assoc (decimal n) (byte " " ∷ []) (log_line_text line)) (prefixed_texts_are_numbered n lines)

-- lines written each after a session's number are, byte for byte, that session's numbered lines
pub prefixed_bytes_are_numbered : (n : ℕ) (lines : List LogLine) → prefixed_bytes (Some n) lines ≡ numbered_bytes (map (numbered n) lines)
prefixed_bytes_are_numbered n lines = ap ended_by_lf (prefixed_texts_are_numbered n lines)

-- the phase that a turn leaves its session in
abbrev pub phase_left : AfterTurn → Phase
phase_left (Going session) = session_phase session
phase_left Closed = phase.Closed
phase_left (Halted session) = phase.Halted

-- the phase that a turn leaves is that of the place at which it leaves its session
left_phase_fits_place : (accounts : Accounts) (at : Place) (ends : ℕ) (left : AfterTurn) → LeavesSession accounts at ends left
    → IsPhaseOf at (phase_left left)
left_phase_fits_place accounts at ends (Going session) is = session_phase_fits_place accounts at session is.0
left_phase_fits_place accounts at ends Closed is = is.0
left_phase_fits_place accounts at ends (Halted session) is = tt

-- the phase that a turn leaves is Halted if and only if the turn has halted the hall
halted_phase_iff_halted : (left : AfterTurn) → (phase_left left ≡ phase.Halted) ↔ (halted_after left ≡ true)
halted_phase_iff_halted (Going session) = (λ is. absurd (open_session_is_not_halted session is), λ is. absurd (cc is))
halted_phase_iff_halted Closed = (λ is. absurd (cc is), λ is. absurd (cc is))
halted_phase_iff_halted (Halted session) = (λ is. refl, λ is. refl)

-- a hall in which the open session of this number takes a turn
module _ {S : Type 0} {facts : S → StoreFacts} {IsStored : List ℕ → Type 0} {old new : Keeper S} {n : ℕ} {session : Session}
    {server_nonce : List ℕ} (others : List OpenSession) (given : ℕ) {event : ClientEvent}
    {moment : ℕ} {left : AfterTurn} where
  -- when the session's turn was taken, the hall has answered one more call, and the phase that the turn leaves is that of the place
  turn_adds_hall_call : {start : BookFields} {calls : List (Numbered Call)} {lines : List LogLine}
      → IsHallAfter facts IsStored start calls (hall_of old (open_session_of n session server_nonce ∷ others) given false)
      → IsTurnOf facts IsStored old session server_nonce event moment lines left new
      → (after : IsHallAfter facts IsStored start (numbered n (call_of (hears event moment) lines) ∷ calls)
      (hall_of new (open_sessions_after n server_nonce left others) given (halted_after left)))
      × IsPhaseOf (after.places n) (phase_left left)
  turn_adds_hall_call {start} {calls} {lines} s t =
      let step = turn_is_hall_step s event moment lines left new t in
      let after = step_adds_hall_call s event moment lines left new step in (
        after.0,
        subst (λ (p : Place). IsPhaseOf p (phase_left left)) (sym after.1)
            (left_phase_fits_place (accounts_in start) step.next _ left step.leaves),
      )

  -- a hall has answered a call when the session's turn was taken and its lines were written
  pub turn_answers_hall_call : {wire wire' log log' : List ℕ}
      → IsTurnWritten facts IsStored old session server_nonce event moment (Some n) wire wire' log log' left new
      → AnswersIn facts IsStored (hall_of old (open_session_of n session server_nonce ∷ others) given false) n (hears event moment)
      (phase_left left) wire wire' log log'
      (hall_of new (open_sessions_after n server_nonce left others) given (halted_after left))
  turn_answers_hall_call {log = log} (lines, t, written) = record {
    lines = lines;
    logged = written.logged ∙ ap (λ (b : List ℕ). log ++ b) (prefixed_bytes_are_numbered n lines);
    sent = written.sent;
    stands = λ start calls s. turn_adds_hall_call s t;
    kept = λ start calls s. returned_phase_is_kept n (phase_left left) (halted_phase_iff_halted left) (turn_adds_hall_call s t);
    shows_halt = halted_phase_iff_halted left;
    saves = λ start calls s. turn_counts_saves t (working_hall_holds_book s refl);
    asks = λ start calls s. turn_asks_for_save (accounts_in start) (s.places n) (s.standing refl).0.0 t (working_hall_holds_book s refl);
    quiet = turn_is_quiet t;
    halts = halting_turn_failed_saving t;
    says_halt = turn_says_halt t;
  }

-- a hall whose open sessions stand in this order or in that
module _ {S : Type 0} {keeper : Keeper S} {open_sessions others : List OpenSession} {given : ℕ} {is_halted : Bool} {new : HallFields S}
    (same : IsPermutation open_sessions others) where
  -- what a call of a hall did does not depend on the order of the hall's open sessions
  pub reordered_hall_answers : {facts : S → StoreFacts} {IsStored : List ℕ → Type 0} {m n : ℕ} {request : Request} {answered : Phase}
      {wire wire' log log' : List ℕ} → m ≡ n
      → AnswersIn facts IsStored (hall_of keeper others given is_halted) m request answered wire wire' log log' new
      → AnswersIn facts IsStored (hall_of keeper open_sessions given is_halted) n request answered wire wire' log log' new
  unfolding reordered_hall_stands
  reordered_hall_answers is was =
      let a = rw is at was in
      record {
        lines = a.lines;
        logged = a.logged;
        sent = a.sent;
        stands = λ start calls s. a.stands start calls (reordered_hall_stands same s);
        kept = λ start calls s. a.kept start calls (reordered_hall_stands same s);
        shows_halt = a.shows_halt;
        saves = λ start calls s. a.saves start calls (reordered_hall_stands same s);
        asks = λ start calls s some. a.asks start calls (reordered_hall_stands same s) some;
        quiet = a.quiet;
        halts = a.halts;
        says_halt = a.says_halt;
      }

  -- whether two halls are the same does not depend on the order of their open sessions
  pub reordered_hall_is_same : IsSameHall (hall_of keeper others given is_halted) new
      → IsSameHall (hall_of keeper open_sessions given is_halted) new
  reordered_hall_is_same is = record {
    book = is.book;
    store = is.store;
    open_sessions = IsPermutation-trans open_sessions others new.open_sessions same is.open_sessions;
    given = is.given;
    halted = is.halted;
  }
