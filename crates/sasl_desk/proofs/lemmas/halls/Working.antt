-- What is known of a hall that has not halted: which sessions are open, what may follow in its log, and what its store holds.
use Rattle.std.proofs.Common.{◌≡◌, ◌⊎◌, inl, inr, Bool, true, false, ℕ, List, [], ◌∷◌, refl, sym, ◌∙◌, subst, arith}
use Rattle.std.specs.List.Sorted.{IsPermutation}
use Rattle.std.proofs.lemmas.List.Sorted.{length_permutation}
use Rattle.std.proofs.lemmas.Bool.{cases_Bool, false≢true, true≢false}
use Rattle.account_book.specs.{BookFields}
use Rattle.account_book.specs.Store.{StoreFacts}
use Rattle.account_book.specs.SavedBooks.{HoldsBook}
use Rattle.book_keeper.specs.declared.keeper.Keeper.{Keeper}
use Rattle.log_grammar.specs.Books.{accounts_in}
use Rattle.log_grammar.specs.Lines.{LogLine, said, busy, halt}
use Rattle.log_grammar.specs.Places.{Place, before_all, between, ending, halted, is_closed, open_at}
use Rattle.log_grammar.specs.Demands.{Accounts, Demands, demands}
use Rattle.log_grammar.specs.Numbered.{Numbered, of_number, MayFollow, IsNumberedLogUpTo}
use Rattle.log_grammar.specs.state_machine.NumberedSteps.{IsVisitTransition, FollowsLast}
use Rattle.log_grammar.specs.Versions.{max_open_sessions}
use Rattle.log_grammar.proofs.lemmas.many_sessions.WithoutLast.{numbered_log_has_last_transition}
use Rattle.log_grammar.proofs.lemmas.many_sessions.HaltAndBusy.{visit_halt_leads_to_halted, visit_busy_leads_to_ending}
use Rattle.sasl_log.proofs.lemmas.ListCounts.{permutation_keeps_all, permutation_keeps_count}
use Rattle.sasl_desk.specs.DueLines.{is_client_turn}
use Rattle.sasl_desk.specs.OpenSessions.{has_number}
use Rattle.sasl_desk.specs.Halls.{HallFields, hall_of, hall_lines, IsSessionRun, IsOpenSessionAt, IsStoredAfter, IsHallAfter}
use Rattle.sasl_desk.specs.Runs.{Call, IsRun}
use Rattle.sasl_desk.specs.declared.hall.open_session.OpenSession.{OpenSession}
use Rattle.sasl_desk.proofs.lemmas.halls.OpenSessions.{some_open_session_has_number}
use Rattle.sasl_desk.proofs.lemmas.turns.Paths.{session_has_client_turn}
use Rattle.sasl_desk.proofs.lemmas.runs.HeldBooks.{unhalted_store_holds_book}

-- a place at which a session is open counts as one
pub open_place_counts_one : (at : Place) → is_closed at ≡ false → open_at at ≡ 1
open_place_counts_one at is = rw is refl

-- a place at which none is open counts as none
pub closed_place_counts_none : (at : Place) → is_closed at ≡ true → open_at at ≡ 0
closed_place_counts_none at is = rw is refl

-- when it is its client's turn, a session is open
pub client_turn_is_open : (at : Place) → is_client_turn at ≡ true → is_closed at ≡ false
client_turn_is_open before_all turn = absurd (cc turn)
client_turn_is_open between turn = absurd (cc turn)
client_turn_is_open at turn = refl

-- a session that is open, and so was not turned away, has a run
pub open_session_has_run : (accounts : Accounts) (calls : List Call) (at : Place) → is_closed at ≡ false → IsSessionRun accounts calls at
    → IsRun accounts calls at
open_session_has_run accounts calls at is_open (inl run) = run
open_session_has_run accounts calls at is_open (inr (turned, same)) =
    absurd (true≢false (subst (λ (p : Place). is_closed p ≡ false) same is_open))

-- nothing is left to be said at a place: no session is open there, or it is its client's turn. Unlike `IsAtRest`, this holds before
-- all lines, and not where the log is halted.
abbrev pub IsClosedOrClientTurn : Place → Type 0
IsClosedOrClientTurn at = (is_closed at ≡ true) ⊎ (is_client_turn at ≡ true)

-- where a session is open and it is not its client's turn, something is left to be said
open_place_out_of_turn_is_neither : (p at : Place) → is_closed p ≡ false → is_client_turn p ≡ false → at ≡ p → IsClosedOrClientTurn at → ⊥
open_place_out_of_turn_is_neither p at is_open unturned is (inl closed) =
    false≢true (sym is_open ∙ subst (λ (q : Place). is_closed q ≡ true) is closed)
open_place_out_of_turn_is_neither p at is_open unturned is (inr turn) =
    false≢true (sym unturned ∙ subst (λ (q : Place). is_client_turn q ≡ true) is turn)

-- any line may follow one that leads to a place where nothing is left to be said
any_line_may_follow : (d : Demands) (at next : Place) (n m : ℕ) (line more : LogLine) → IsVisitTransition d at line next
    → IsClosedOrClientTurn next
    → MayFollow n line m more
any_line_may_follow d at next n m (said halt) more goes rests =
    open_place_out_of_turn_is_neither halted next refl refl (visit_halt_leads_to_halted d at (said halt) next refl goes) rests
any_line_may_follow d at next n m (said busy) more goes rests =
    absurd (open_place_out_of_turn_is_neither ending next refl refl (visit_busy_leads_to_ending d at (said busy) next refl goes) rests)
any_line_may_follow d at next n m line more goes rests = tt

-- after calls of which none halted, the store holds the book
unhalted_hall_holds_book : (IsStored : List ℕ → Type 0) (accounts : Accounts) (calls : List (Numbered Call)) (places : ℕ → Place)
    (book : BookFields) (store : StoreFacts) → ((n : ℕ) → places n ≡ halted → ⊥)
    → IsStoredAfter IsStored accounts calls places book store → HoldsBook IsStored book store
unhalted_hall_holds_book IsStored accounts [] places book store session held = held
unhalted_hall_holds_book IsStored accounts (c ∷ calls) places book store session stored =
    unhalted_store_holds_book IsStored accounts (of_number c.number (c ∷ calls)) book store (places c.number) (session c.number) stored

-- a hall that has answered these calls and has not halted
module _ {S : Type 0} {facts : S → StoreFacts} {IsStored : List ℕ → Type 0} {start : BookFields} {calls : List (Numbered Call)}
    {hall : HallFields S} (s : IsHallAfter facts IsStored start calls hall) (working : hall.is_halted ≡ false) where
  -- in a hall that has not halted, the session of each number that is open at its place is kept, and stands at that place
  session_of_open_place_is_open : (n : ℕ) → is_closed (s.places n) ≡ false
      → (open_session : OpenSession) × IsOpenSessionAt (accounts_in start) calls s.places open_session × (open_session.number ≡ n)
  session_of_open_place_is_open n is_open =
      some_open_session_has_number (IsOpenSessionAt (accounts_in start) calls s.places) n hall.open_sessions (s.standing working)
      (λ none. absurd (omega (arith, none, s.open_sessions n, open_place_counts_one (s.places n) is_open)))

  -- in a hall that has not halted, the session of each number is not open, or it is its client's turn
  each_place_is_closed_or_client_turn : (n : ℕ) → IsClosedOrClientTurn (s.places n)
  each_place_is_closed_or_client_turn n = elim (cases_Bool (is_closed (s.places n))) [
    | inl closed ↦ inl closed
    | inr is_open ↦
        let found = session_of_open_place_is_open n is_open in
        let turn = session_has_client_turn (accounts_in start) (s.places found.0.number) found.0.session found.1.0 in
        inr (subst (λ (m : ℕ). is_client_turn (s.places m) ≡ true) found.2 turn)
  ]

  -- in the log of a hall that has not halted, any line of any number may follow the last
  pub any_line_follows_log : (n : ℕ) (line : LogLine) → FollowsLast (hall_lines calls) n line
  any_line_follows_log n line before x same =
      let d = demands (accounts_in start) in
      let b = numbered_log_has_last_transition max_open_sessions d before x.number x.value s.places s.told
      (subst (λ (l : List (Numbered LogLine)). IsNumberedLogUpTo max_open_sessions d l s.places s.told) same s.begins) in
      any_line_may_follow d (b.before x.number) (s.places x.number) x.number n x.value line b.goes.goes
      (each_place_is_closed_or_client_turn x.number)

  -- the store of a hall that has not halted has not failed, and holds the text of the hall's book
  pub working_hall_holds_book : HoldsBook IsStored hall.keeper.book (facts hall.keeper.store)
  working_hall_holds_book =
      unhalted_hall_holds_book IsStored (accounts_in start) calls s.places hall.keeper.book (facts hall.keeper.store)
      (λ n is. open_place_out_of_turn_is_neither halted (s.places n) refl refl is (each_place_is_closed_or_client_turn n)) s.is_stored

module _ {S : Type 0} {facts : S → StoreFacts} {IsStored : List ℕ → Type 0} {start : BookFields} {calls : List (Numbered Call)}
    {keeper : Keeper S} {open_sessions others : List OpenSession} {given : ℕ} {is_halted : Bool}
    (same : IsPermutation open_sessions others) where
  -- a hall stands for the same calls with its open sessions in another order
  unfoldable pub reordered_hall_stands : IsHallAfter facts IsStored start calls (hall_of keeper open_sessions given is_halted)
      → IsHallAfter facts IsStored start calls (hall_of keeper others given is_halted)
  reordered_hall_stands s = record {
    places = s.places;
    told = s.told;
    session_runs = s.session_runs;
    fresh = s.fresh;
    begins = s.begins;
    writable = s.writable;
    given = s.given;
    last_number = s.last_number;
    open_sessions = λ n. permutation_keeps_count (has_number n) open_sessions others same ∙ s.open_sessions n;
    counted = omega (arith, length_permutation open_sessions others same, s.counted);
    standing = λ working. permutation_keeps_all (IsOpenSessionAt (accounts_in start) calls s.places) open_sessions others same
        (s.standing working);
    is_book = s.is_book;
    is_stored = s.is_stored;
  }
