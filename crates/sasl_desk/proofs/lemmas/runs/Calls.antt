-- A desk whose session took a turn, or which greeted a client, has answered the call.
use Rattle.std.proofs.Common.{◌≡◌, ◌↔◌, true, ℕ, List, [], ◌∷◌, ◌++◌, refl, subst, arith}
use Rattle.std.specs.declared.option.Option.TheVariants.{None}
use Rattle.std.proofs.lemmas.List.{same_from_push}
use Rattle.account_book.specs.Store.{StoreFacts}
use Rattle.book_keeper.specs.declared.keeper.Keeper.{Keeper}
use Rattle.log_grammar.specs.Books.{accounts_in}
use Rattle.log_grammar.specs.Lines.{said, mechs, halt, log_bytes}
use Rattle.log_grammar.specs.laws.LastLines.{EndsWith}
use Rattle.log_grammar.specs.Words.{offered_names}
use Rattle.sasl_desk.specs.Events.{ClientEvent}
use Rattle.sasl_desk.specs.Runs.{greets, hears, wire_bytes}
use Rattle.sasl_desk.specs.inner.TurnResults.{IsTurnWritten}
use Rattle.sasl_desk.specs.Desks.{IsDeskAfter, Answers, state_phase, session_phase, desk_of, state_after}
use Rattle.sasl_desk.specs.declared.turn.AfterTurn.{AfterTurn}
use Rattle.sasl_desk.specs.declared.turn.AfterTurn.TheVariants.{Going, Halted}
use Rattle.sasl_desk.specs.declared.turn.AfterTurn.TheVariants as after
use Rattle.sasl_desk.specs.declared.desk.Desk.{Desk}
use Rattle.sasl_desk.specs.declared.desk.state.State.{State}
use Rattle.sasl_desk.specs.declared.desk.state.State.TheVariants.{Closed, Open}
use Rattle.sasl_desk.specs.declared.session.Session.{Session}
use Rattle.sasl_desk.specs.declared.session.phase.Phase.TheVariants as phase
use Rattle.sasl_desk.specs.declared.session.Session.TheVariants.{WaitAuth, WaitFirst, WaitFinal, WaitCode}
use Rattle.sasl_desk.proofs.lemmas.turns.Saves.{halted_after, turn_counts_saves, turn_asks_for_save, turn_is_quiet, halting_turn_failed_saving, turn_says_halt}
use Rattle.sasl_desk.proofs.lemmas.runs.IsDeskAfter.{open_desk_holds_book, greeting_adds_desk_call, turn_adds_desk_call}

-- the phase of an open session is not Halted
pub open_session_is_not_halted : (session : Session) → session_phase session ≡ phase.Halted → ⊥
open_session_is_not_halted WaitAuth is = cc is
open_session_is_not_halted (WaitFirst mechanism) is = cc is
open_session_is_not_halted (WaitFinal waiting) is = cc is
open_session_is_not_halted (WaitCode name) is = cc is

-- the phase of a desk after a turn is Halted if and only if the turn has halted it
halted_phase_iff_halting_turn : (left : AfterTurn) (server_nonce : List ℕ)
    → (state_phase (state_after left server_nonce) ≡ phase.Halted) ↔ (halted_after left ≡ true)
halted_phase_iff_halting_turn (Going session) server_nonce =
    (λ is. absurd (open_session_is_not_halted session is), λ is. absurd (cc is))
halted_phase_iff_halting_turn after.Closed server_nonce = (λ is. absurd (cc is), λ is. absurd (cc is))
halted_phase_iff_halting_turn (Halted session) server_nonce = (λ is. refl, λ is. refl)

-- an offer of mechanisms alone does not end with `S HALT`
pub offer_has_no_halt : (names : List ℕ) → EndsWith (said (mechs names) ∷ []) (said halt ∷ []) → ⊥
offer_has_no_halt names (before, same) =
    let last = same_from_push [] before (said (mechs names)) (said halt) same in
    cc last.1

-- a desk with an open session, and what a turn makes of it
module _ {S : Type 0} {facts : S → StoreFacts} {IsStored : List ℕ → Type 0} {old : Keeper S} {session : Session} {server_nonce : List ℕ}
    {event : ClientEvent} {moment : ℕ}
    {left : AfterTurn} {wire wire' log log' : List ℕ} {new : Desk S} where
  -- when the turn was taken and its lines were written, the desk has answered the call
  pub turn_answers_desk_call : IsTurnWritten facts IsStored old session server_nonce event moment None wire wire' log log' left new.keeper
      → new.state ≡ state_after left server_nonce
      → Answers facts IsStored (desk_of old (Open session server_nonce)) (hears event moment) wire wire' log log' new
  turn_answers_desk_call (lines, t, written) is_state = record {
    lines = lines;
    logged = written.logged;
    sent = written.sent;
    answers = record {
      stands = λ start calls s. rw is_state (turn_adds_desk_call s event moment lines left new.keeper t);
      saves = λ start calls s. turn_counts_saves t (open_desk_holds_book s);
      asks = λ start calls s. turn_asks_for_save (accounts_in start) s.place s.is_state.0 t (open_desk_holds_book s);
      quiet = turn_is_quiet t;
    };
    halts = λ is. halting_turn_failed_saving t ((halted_phase_iff_halting_turn left server_nonce).0 (rw is_state at is));
    says_halt = (
      λ is. (turn_says_halt t).0 ((halted_phase_iff_halting_turn left server_nonce).0 (rw is_state at is)),
      λ ends. rw is_state ((halted_phase_iff_halting_turn left server_nonce).1 ((turn_says_halt t).1 ends)),
    );
  }

-- a closed desk that has written its offer has answered the greeting
pub greeting_answers_desk_call : {S : Type 0} (facts : S → StoreFacts) (IsStored : List ℕ → Type 0) (keeper : Keeper S) (state : State)
    (server_nonce wire wire' log log' : List ℕ)
    → state ≡ Closed → log' ≡ log ++ log_bytes (said (mechs offered_names) ∷ [])
    → wire' ≡ wire ++ wire_bytes (said (mechs offered_names) ∷ [])
    → Answers facts IsStored (desk_of keeper state) (greets server_nonce) wire wire' log log' (desk_of keeper (Open WaitAuth server_nonce))
greeting_answers_desk_call facts IsStored keeper state server_nonce wire wire' log log' closed logged sent = record {
  lines = said (mechs offered_names) ∷ [];
  logged = logged;
  sent = sent;
  answers = record {
    stands = λ start calls s.
        greeting_adds_desk_call server_nonce
        (subst (λ (st : State). IsDeskAfter facts IsStored start calls (desk_of keeper st)) closed s);
    saves = λ start calls s. omega arith;
    asks = λ start calls s some. absurd (some refl);
    quiet = λ none. (refl, refl);
  };
  halts = λ is. absurd (cc is);
  says_halt = (λ is. absurd (cc is), λ ends. absurd (offer_has_no_halt offered_names ends));
}
