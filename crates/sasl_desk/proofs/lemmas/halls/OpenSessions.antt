-- The open sessions of a hall, counted by their numbers.
use Rattle.std.proofs.Common.{◌≡◌, ◌+◌, inl, inr, ℕ, List, [], ◌∷◌, ◌++◌, refl, sym, ◌∙◌, ap, arith}
use Rattle.std.specs.Prelude.{count_by}
use Rattle.std.specs.List.{AllByRecursion}
use Rattle.std.proofs.lemmas.Bool.{eq-eqb}
use Rattle.std.proofs.lemmas.Bool.Decides.{eqb_tells}
use Rattle.sasl_log.proofs.lemmas.ListCounts.{passing_counts_one, failing_counts_none, first_adds_its_count}
use Rattle.sasl_desk.specs.OpenSessions.{has_number}
use Rattle.sasl_desk.specs.declared.hall.open_session.OpenSession.{OpenSession}
use Rattle.sasl_desk.specs.declared.session.Session.{Session}
use Rattle.sasl_desk.proofs.lemmas.Lists.{last_counts_as_first}

-- an open session of these parts
abbrev pub open_session_of : (number : ℕ) → Session → (server_nonce : List ℕ) → OpenSession
open_session_of number session server_nonce = record { number = number; session = session; server_nonce = server_nonce }

-- an open session of a number adds one to the open sessions of that number
pub own_open_session_counts : (n : ℕ) (open_session : OpenSession) (open_sessions : List OpenSession) → open_session.number ≡ n
    → count_by (has_number n) (open_session ∷ open_sessions) ≡ 1 + count_by (has_number n) open_sessions
own_open_session_counts n open_session open_sessions same =
    first_adds_its_count (has_number n) open_session open_sessions ∙ ap (λ (k : ℕ). k + count_by (has_number n) open_sessions)
    (passing_counts_one (has_number n) open_session (eq-eqb open_session.number n same))

-- an open session of another number does not count among those of this one
pub other_open_session_is_not_counted : (n : ℕ) (open_session : OpenSession) (open_sessions : List OpenSession)
    → (open_session.number ≡ n → ⊥)
    → count_by (has_number n) (open_session ∷ open_sessions) ≡ count_by (has_number n) open_sessions
other_open_session_is_not_counted n open_session open_sessions other = elim (eqb_tells open_session.number n) [
  | inl same ↦ absurd (other same.1)
  | inr differ ↦
      omega (arith, failing_counts_none (has_number n) open_session differ.0, first_adds_its_count (has_number n) open_session open_sessions)
]

-- an open session at the end of a list is the only one of its number if no open session before it has this number
pub last_open_session_counts_one : (n : ℕ) (open_session : OpenSession) (open_sessions : List OpenSession) → open_session.number ≡ n
    → count_by (has_number n) open_sessions ≡ 0
    → count_by (has_number n) (open_sessions ++ open_session ∷ []) ≡ 1
last_open_session_counts_one n open_session open_sessions same none =
    omega (
      arith,
      none,
      last_counts_as_first
          (has_number n) open_sessions open_session,
      own_open_session_counts n open_session open_sessions same,
    )

-- an open session of another number at the end of a list does not count among those of this one
pub other_last_session_is_not_counted : (n : ℕ) (open_session : OpenSession) (open_sessions : List OpenSession)
    → (open_session.number ≡ n → ⊥)
    → count_by (has_number n) (open_sessions ++ open_session ∷ []) ≡ count_by (has_number n) open_sessions
other_last_session_is_not_counted n open_session open_sessions other =
    last_counts_as_first (has_number n) open_sessions open_session ∙ other_open_session_is_not_counted n open_session open_sessions other

-- if a number has an open session, what is true of each open session is true of one with this number
pub some_open_session_has_number : (P : OpenSession → Type 0) (n : ℕ) (open_sessions : List OpenSession) → AllByRecursion P open_sessions
    → (count_by (has_number n) open_sessions ≡ 0 → ⊥)
    → (open_session : OpenSession) × P open_session × (open_session.number ≡ n)
some_open_session_has_number P n [] all some = absurd (some refl)
some_open_session_has_number P n (open_session ∷ open_sessions) all some = elim (eqb_tells open_session.number n) [
  | inl same ↦ (open_session, all.0, same.1)
  | inr differ ↦ some_open_session_has_number P n open_sessions all.1
      (λ none. some (other_open_session_is_not_counted n open_session open_sessions differ.1 ∙ none))
]

-- no open session is of a number that has none
pub open_sessions_are_of_others : (n : ℕ) (open_sessions : List OpenSession) → count_by (has_number n) open_sessions ≡ 0
    → AllByRecursion (λ open_session. open_session.number ≡ n → ⊥) open_sessions
open_sessions_are_of_others n [] none = tt
open_sessions_are_of_others n (open_session ∷ open_sessions) none = elim (eqb_tells open_session.number n) [
  | inl same ↦ absurd (omega (arith, none, own_open_session_counts n open_session open_sessions same.1))
  | inr differ ↦ (
    differ.1,
    open_sessions_are_of_others n open_sessions
        (sym (other_open_session_is_not_counted n open_session open_sessions differ.1) ∙ none),
  )
]
