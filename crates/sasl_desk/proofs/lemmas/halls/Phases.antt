-- Where each number stands in a hall: between sessions if it has no open session; and the phase of each open session is that of its place
-- and the one that its last call returned.
use Rattle.std.proofs.Common.{◌≡◌, ◌↔◌, inl, inr, Bool, true, false, ℕ, List, refl, sym, ◌∙◌, ap, subst, arith}
use Rattle.std.specs.List.{find}
use Rattle.std.specs.declared.option.Option.{Option}
use Rattle.std.specs.declared.option.Option.TheVariants.{None, Some}
use Rattle.std.proofs.lemmas.Bool.{cases_Bool, eqb-true}
use Rattle.std.proofs.lemmas.Option.{same_Some}
use Rattle.account_book.specs.{BookFields}
use Rattle.account_book.specs.Store.{StoreFacts}
use Rattle.log_grammar.specs.Books.{accounts_in}
use Rattle.log_grammar.specs.Places.{Place, before_all, between, offered, waits_first, waits_final, waits_code, is_closed}
use Rattle.log_grammar.specs.Demands.{Accounts}
use Rattle.log_grammar.specs.Numbered.{Numbered, of_number}
use Rattle.sasl_desk.specs.Desks.{session_phase, state_phase, IsStateAt}
use Rattle.sasl_desk.specs.OpenSessions.{has_number}
use Rattle.sasl_desk.specs.Halls.{HallFields, IsSessionRun, IsOpenSessionAt, IsHallAfter, phase_after_halt, phase_of_number, phase_unless_ended, IsPhaseOf, IsPhaseOrNoneOf}
use Rattle.sasl_desk.specs.Runs.{Call, IsAtRest}
use Rattle.sasl_desk.specs.Sessions.{IsSessionAt}
use Rattle.sasl_desk.specs.declared.desk.state.State.{State}
use Rattle.sasl_desk.specs.declared.desk.state.State.TheVariants.{Closed, Open, Halted}
use Rattle.sasl_desk.specs.declared.hall.open_session.OpenSession.{OpenSession}
use Rattle.sasl_desk.specs.declared.session.Session.{Session}
use Rattle.sasl_desk.specs.declared.session.Session.TheVariants.{WaitAuth, WaitFirst, WaitFinal, WaitCode}
use Rattle.sasl_desk.specs.declared.session.phase.Phase.{Phase}
use Rattle.sasl_desk.specs.declared.session.phase.Phase.TheVariants as phase
use Rattle.sasl_desk.proofs.lemmas.Lists.{none_is_counted_if_none_found, found_has_property, found_is_counted}
use Rattle.sasl_desk.proofs.lemmas.runs.RestingRuns.{run_rests}
use Rattle.sasl_desk.proofs.lemmas.runs.Calls.{open_session_is_not_halted}
use Rattle.sasl_desk.proofs.lemmas.halls.Working.{open_place_counts_one, closed_place_counts_none}

-- after a run of a hall's session, nothing is left to be said at the place
pub session_run_rests : (accounts : Accounts) (calls : List Call) (at : Place) → IsSessionRun accounts calls at → IsAtRest at
session_run_rests accounts calls at (inl run) = run_rests accounts calls at run
session_run_rests accounts calls at (inr (turned, is)) = rw is tt

-- a closed place at which nothing is left to be said is between sessions
resting_closed_is_between : (at : Place) → is_closed at ≡ true → IsAtRest at → at ≡ between
resting_closed_is_between before_all is rests = absurd rests.1
resting_closed_is_between between is rests = refl
resting_closed_is_between at is rests = absurd (cc is)

-- an open session's phase is that of the place at which it stands
pub session_phase_fits_place : (accounts : Accounts) (at : Place) (session : Session) → IsSessionAt accounts at session
    → IsPhaseOf at (session_phase session)
session_phase_fits_place accounts at WaitAuth is = is
session_phase_fits_place accounts at (WaitFirst mechanism) is = (_, is)
session_phase_fits_place accounts at (WaitFinal waiting) (first, challenge, is, stands) = (_, _, first, challenge, is)
session_phase_fits_place accounts at (WaitCode name) is = (name, is)

-- the law: the phase of a desk is that of the place to which its log has led
pub desk_phase_fits_place : (accounts : Accounts) (server_nonce : List ℕ) (at : Place) (state : State)
    → IsStateAt accounts server_nonce at state → IsPhaseOf at (state_phase state)
desk_phase_fits_place accounts server_nonce at Closed is = is
desk_phase_fits_place accounts server_nonce at (Open session own) is = session_phase_fits_place accounts at session is.0
desk_phase_fits_place accounts server_nonce at Halted is = tt

-- the phase that fits a place, unless it is Halted
phase_at : Place → Phase
phase_at between = phase.Closed
phase_at offered = phase.WaitAuth
phase_at (waits_first mechanism) = phase.WaitFirst
phase_at (waits_final mechanism account client_first server_first) = phase.WaitFinal
phase_at (waits_code account) = phase.WaitCode
phase_at at = phase.Halted

-- at most one phase that is not Halted fits a place
fitting_phase_is_one : (at : Place) (p : Phase) → IsPhaseOf at p → (p ≡ phase.Halted → ⊥) → phase_at at ≡ p
unfolding phase_at
fitting_phase_is_one at phase.Closed is apart = rw is refl
fitting_phase_is_one at phase.WaitAuth is apart = rw is refl
fitting_phase_is_one at phase.WaitFirst (mechanism, is) apart = rw is refl
fitting_phase_is_one at phase.WaitFinal (mechanism, account, client_first, server_first, is) apart = rw is refl
fitting_phase_is_one at phase.WaitCode (account, is) apart = rw is refl
fitting_phase_is_one at phase.Halted is apart = absurd (apart refl)

-- a session that is kept, and not in the phase Halted, is in the phase that fits its place; none is kept between sessions
kept_phase_fits_place : (at : Place) (kept : Option Phase) → IsPhaseOrNoneOf at kept → (kept ≡ Some phase.Halted → ⊥)
    → kept ≡ phase_unless_ended (phase_at at)
unfolding phase_at
kept_phase_fits_place at None is apart = rw is refl
kept_phase_fits_place at (Some phase.Closed) (within, is) apart = absurd (within is)
kept_phase_fits_place at (Some phase.WaitAuth) (within, is) apart = rw is refl
kept_phase_fits_place at (Some phase.WaitFirst) (within, (mechanism, is)) apart = rw is refl
kept_phase_fits_place at (Some phase.WaitFinal) (within, (mechanism, account, client_first, server_first, is)) apart = rw is refl
kept_phase_fits_place at (Some phase.WaitCode) (within, (account, is)) apart = rw is refl
kept_phase_fits_place at (Some phase.Halted) (within, is) apart = absurd (apart refl)

-- while a hall works, none of its sessions is in the phase Halted
working_session_is_not_halted : (open_session : Option OpenSession) → phase_after_halt false open_session ≡ Some phase.Halted → ⊥
working_session_is_not_halted None is = absurd (cc is)
working_session_is_not_halted (Some open_session) is =
    open_session_is_not_halted open_session.session (same_Some (session_phase open_session.session) phase.Halted is)

-- a hall that has answered these calls, and a number
module _ {S : Type 0} {facts : S → StoreFacts} {IsStored : List ℕ → Type 0} {start : BookFields} {calls : List (Numbered Call)}
    {hall : HallFields S} (s : IsHallAfter facts IsStored start calls hall) (n : ℕ) where
  -- a number without an open session is between sessions
  pub number_without_open_session_is_between : find (has_number n) hall.open_sessions ≡ None → s.places n ≡ between
  number_without_open_session_is_between none = elim (cases_Bool (is_closed (s.places n))) [
    | inl is ↦ resting_closed_is_between (s.places n) is (session_run_rests (accounts_in start) (of_number n calls) (s.places n)
        (s.session_runs n))
    | inr is_open ↦ absurd (omega (
      arith,
      none_is_counted_if_none_found (has_number n) hall.open_sessions none,
      s.open_sessions n,
      open_place_counts_one (s.places n) is_open,
    ))
  ]

  -- a number with an open session is not between sessions
  number_with_open_session_is_not_between : (open_session : OpenSession) → find (has_number n) hall.open_sessions ≡ Some open_session
      → s.places n ≡ between → ⊥
  number_with_open_session_is_not_between open_session some at =
      found_is_counted (has_number n) hall.open_sessions open_session some
      (s.open_sessions n ∙ closed_place_counts_none (s.places n) (rw at refl))

  -- the phase of the number's open session, or none if it has none, is that of its place
  open_session_phase_fits_place : (is_halted : Bool) → is_halted ≡ hall.is_halted → (open_session : Option OpenSession)
      → find (has_number n) hall.open_sessions ≡ open_session
      → IsPhaseOrNoneOf (s.places n) (phase_after_halt is_halted open_session)
  open_session_phase_fits_place is_halted same None none = number_without_open_session_is_between none
  open_session_phase_fits_place true same (Some open_session) some = (number_with_open_session_is_not_between open_session some, tt)
  open_session_phase_fits_place false same (Some open_session) some =
      let found = found_has_property (IsOpenSessionAt (accounts_in start) calls s.places) (has_number n) hall.open_sessions open_session
      (s.standing (sym same)) some in
      let number = eqb-true open_session.number n found.1 in (
        number_with_open_session_is_not_between open_session some,
        subst (λ (m : ℕ). IsPhaseOf (s.places m) (session_phase open_session.session)) number
            (session_phase_fits_place (accounts_in start) (s.places open_session.number) open_session.session found.0.0),
      )

  -- the law: the phase of the number's session is that of its place, and there is none if and only if no session of it is open
  pub phases_are_those_of_places : IsPhaseOrNoneOf (s.places n) (phase_of_number hall n)
  phases_are_those_of_places = open_session_phase_fits_place hall.is_halted refl (find (has_number n) hall.open_sessions) refl

  -- while the hall works, a phase that fits the session's place is the one in which the session is kept
  fitting_phase_is_kept : hall.is_halted ≡ false → (p : Phase) → IsPhaseOf (s.places n) p → (p ≡ phase.Halted → ⊥)
      → phase_of_number hall n ≡ phase_unless_ended p
  fitting_phase_is_kept working p is apart =
      let open_session = find (has_number n) hall.open_sessions in
      kept_phase_fits_place (s.places n) (phase_of_number hall n) phases_are_those_of_places
      (λ halted. working_session_is_not_halted open_session
      (subst (λ (b : Bool). phase_after_halt b open_session ≡ Some phase.Halted) working halted))
      ∙ ap phase_unless_ended (fitting_phase_is_one (s.places n) p is apart)

-- the phase that a call returns is the one in which its session is kept, while the hall works
pub returned_phase_is_kept : {S : Type 0} {facts : S → StoreFacts} {IsStored : List ℕ → Type 0} {start : BookFields}
    {calls : List (Numbered Call)} {new : HallFields S} (n : ℕ) (answered : Phase)
    → ((answered ≡ phase.Halted) ↔ (new.is_halted ≡ true))
    → ((after : IsHallAfter facts IsStored start calls new) × IsPhaseOf (after.places n) answered)
    → new.is_halted ≡ false → phase_of_number new n ≡ phase_unless_ended answered
returned_phase_is_kept n answered shows_halt (after, is) working =
    fitting_phase_is_kept after n working answered is (λ halted. absurd (cc (shows_halt.0 halted, working)))
