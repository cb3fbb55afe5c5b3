-- What a session of a hall is told up to its outcome follows from what it was asked up to there, whatever other sessions there are.
use Rattle.std.proofs.Common.{◌≡◌, inl, inr, ℕ, List, [], ◌∷◌, ◌++◌, subst}
use Rattle.account_book.specs.{BookFields}
use Rattle.account_book.specs.Store.{StoreFacts}
use Rattle.log_grammar.specs.Places.{Place}
use Rattle.log_grammar.specs.Demands.{Accounts}
use Rattle.log_grammar.specs.Books.{accounts_in}
use Rattle.log_grammar.specs.Numbered.{Numbered, of_number}
use Rattle.sasl_desk.specs.Alone.{HaveSameRequests, up_to_acceptance, HaveSameEntries}
use Rattle.sasl_desk.specs.Halls.{HallFields, IsTurnedAway, IsSessionRun, IsHallAfter}
use Rattle.sasl_desk.specs.Runs.{Call, IsRun, call_lines}
use Rattle.sasl_desk.proofs.lemmas.runs.SameRequests.{same_requests_bring_same_lines}

-- the first calls of a run are a run
first_calls_are_run : (accounts : Accounts) (later first : List Call) (at : Place) → IsRun accounts (later ++ first) at
    → (place : Place) × IsRun accounts first place
first_calls_are_run accounts [] first at run = (at, run)
first_calls_are_run accounts (c ∷ later) first at (place, run, answered) = first_calls_are_run accounts later first place run

-- the first calls of a session that was not turned away are a run
first_session_calls_are_run : (accounts : Accounts) (calls later first : List Call) (at : Place) → calls ≡ later ++ first
    → (IsTurnedAway calls → ⊥) → IsSessionRun accounts calls at → (place : Place) × IsRun accounts first place
first_session_calls_are_run accounts calls later first at same let_in (inl run) =
    first_calls_are_run accounts later first at (subst (λ (c : List Call). IsRun accounts c at) same run)
first_session_calls_are_run accounts calls later first at same let_in (inr (turned, is)) = absurd (let_in turned)

-- sessions of two halls, of which neither was turned away
module _ {S : Type 0} {facts : S → StoreFacts} {IsStored : List ℕ → Type 0} {start begun : BookFields}
    {calls others : List (Numbered Call)} {hall other : HallFields S} (n m : ℕ) (later first other_later other_first : List Call)
    (s : IsHallAfter facts IsStored start calls hall) (r : IsHallAfter facts IsStored begun others other) where
  -- the law: if their entries and the requests of their first calls are equal, so are the lines of these calls up to an acceptance
  pub logins_depend_on_no_other_session : HaveSameEntries (accounts_in start) (accounts_in begun)
      → of_number n calls ≡ later ++ first → of_number m others ≡ other_later ++ other_first
      → (IsTurnedAway (of_number n calls) → ⊥) → (IsTurnedAway (of_number m others) → ⊥) → HaveSameRequests first other_first
      → up_to_acceptance (call_lines first) ≡ up_to_acceptance (call_lines other_first)
  logins_depend_on_no_other_session entries mine theirs let_in let_in_too same =
      let (at, run) = first_session_calls_are_run (accounts_in start) (of_number n calls) later first (s.places n) mine let_in
      (s.session_runs n) in
      let (also, runs) = first_session_calls_are_run (accounts_in begun) (of_number m others) other_later other_first (r.places m) theirs
      let_in_too (r.session_runs m) in
      same_requests_bring_same_lines (accounts_in start) (accounts_in begun) first other_first at also entries run runs same
