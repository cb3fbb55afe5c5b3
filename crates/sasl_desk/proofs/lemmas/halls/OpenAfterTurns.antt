-- The open sessions of a hall after a turn of one of its sessions: the others, and its own open session unless it ended.
use Rattle.std.proofs.Common.{◌≡◌, ◌+◌, false, ℕ, List, [], ◌∷◌, ◌++◌, length, length-append, refl, arith}
use Rattle.std.specs.Prelude.{count_by}
use Rattle.std.specs.List.{AllByRecursion}
use Rattle.scram_text.proofs.lemmas.ListEnds.{appended_lists_keep_all}
use Rattle.log_grammar.specs.Places.{Place, between, halted, open_at}
use Rattle.log_grammar.specs.Demands.{Accounts}
use Rattle.log_grammar.specs.Numbered.{Numbered, of_number}
use Rattle.sasl_desk.specs.OpenSessions.{has_number}
use Rattle.sasl_desk.specs.Halls.{IsOpenSessionAt}
use Rattle.sasl_desk.specs.Runs.{Call, server_nonce_of}
use Rattle.sasl_desk.specs.Sessions.{IsSessionAt}
use Rattle.sasl_desk.specs.declared.hall.open_session.OpenSession.{OpenSession}
use Rattle.sasl_desk.specs.declared.turn.AfterTurn.{AfterTurn}
use Rattle.sasl_desk.specs.declared.turn.AfterTurn.TheVariants.{Going, Closed, Halted}
use Rattle.sasl_desk.proofs.lemmas.turns.Paths.{session_has_client_turn}
use Rattle.sasl_desk.proofs.lemmas.turns.Saves.{halted_after}
use Rattle.sasl_desk.proofs.lemmas.halls.OpenSessions.{last_open_session_counts_one, other_last_session_is_not_counted, open_session_of}
use Rattle.sasl_desk.proofs.lemmas.halls.Working.{open_place_counts_one, closed_place_counts_none, client_turn_is_open}

-- a turn leaves its session at this place, with so many `E` lines
abbrev pub LeavesSession : Accounts → Place → (ends : ℕ) → AfterTurn → Type 0
LeavesSession accounts next ends (Going session) = IsSessionAt accounts next session × (ends ≡ 0)
LeavesSession accounts next ends Closed = (next ≡ between) × (ends ≡ 1)
LeavesSession accounts next ends (Halted session) = (next ≡ halted) × (ends ≡ 0)

-- the open sessions after a turn of the session of this number: it is among them again unless it has ended
abbrev pub open_sessions_after : (n : ℕ) (server_nonce : List ℕ) → AfterTurn → List OpenSession → List OpenSession
open_sessions_after n server_nonce (Going session) others = others ++ open_session_of n session server_nonce ∷ []
open_sessions_after n server_nonce Closed others = others
open_sessions_after n server_nonce (Halted session) others = others ++ open_session_of n session server_nonce ∷ []

-- how many open_sessions a session takes after a turn: none if it has ended, else one
pub still_open : AfterTurn → ℕ
still_open (Going session) = 1
still_open Closed = 0
still_open (Halted session) = 1

-- a turn that leaves its session at a place
module _ (accounts : Accounts) (next : Place) (ends : ℕ) where
  -- a session is open after a turn if and only if it is open at the place where the turn leaves it
  pub still_open_counts_open : (left : AfterTurn) → LeavesSession accounts next ends left → open_at next ≡ still_open left
  unfolding still_open
  still_open_counts_open (Going session) is =
      open_place_counts_one next (client_turn_is_open next (session_has_client_turn accounts next session is.0))
  still_open_counts_open Closed is = closed_place_counts_none next (rw is.0 refl)
  still_open_counts_open (Halted session) is = open_place_counts_one next (rw is.0 refl)

  -- either a session is open after its turn, or the turn has one `E` line
  pub is_open_or_ended : (left : AfterTurn) → LeavesSession accounts next ends left → still_open left + ends ≡ 1
  unfolding still_open
  is_open_or_ended (Going session) is = omega (arith, is.1)
  is_open_or_ended Closed is = omega (arith, is.1)
  is_open_or_ended (Halted session) is = omega (arith, is.1)

-- the open sessions after a turn of the session of this number, beside which there are these others
module _ (n : ℕ) (server_nonce : List ℕ) (others : List OpenSession) where
  -- after a turn the open sessions are the others, and one more if the session is still open
  pub turn_adds_what_is_still_open : (left : AfterTurn)
      → length (open_sessions_after n server_nonce left others) ≡ length others + still_open left
  unfolding still_open
  turn_adds_what_is_still_open (Going session) = length-append others (open_session_of n session server_nonce ∷ [])
  turn_adds_what_is_still_open Closed = omega arith
  turn_adds_what_is_still_open (Halted session) = length-append others (open_session_of n session server_nonce ∷ [])

  -- if none of the others has this number, the open sessions of the number are as many as the session takes open_sessions
  pub own_sessions_count : (left : AfterTurn) → count_by (has_number n) others ≡ 0
      → count_by (has_number n) (open_sessions_after n server_nonce left others) ≡ still_open left
  unfolding still_open
  own_sessions_count (Going session) none = last_open_session_counts_one n (open_session_of n session server_nonce) others refl none
  own_sessions_count Closed none = none
  own_sessions_count (Halted session) none = last_open_session_counts_one n (open_session_of n session server_nonce) others refl none

  -- the open sessions of another number are as many as among the others
  pub other_counts_stay : (m : ℕ) (left : AfterTurn) → (n ≡ m → ⊥)
      → count_by (has_number m) (open_sessions_after n server_nonce left others) ≡ count_by (has_number m) others
  other_counts_stay m (Going session) other = other_last_session_is_not_counted m (open_session_of n session server_nonce) others other
  other_counts_stay m Closed other = refl
  other_counts_stay m (Halted session) other = other_last_session_is_not_counted m (open_session_of n session server_nonce) others other

  -- if the other open sessions stand at their places, and the session stands where the turn left it, all open sessions stand at their
  -- places
  pub turn_leaves_sessions_standing : (accounts : Accounts) (calls : List (Numbered Call)) (places : ℕ → Place) (ends : ℕ)
      (left : AfterTurn)
      → LeavesSession accounts (places n) ends left → AllByRecursion (IsOpenSessionAt accounts calls places) others
      → server_nonce ≡ server_nonce_of (of_number n calls) → halted_after left ≡ false
      → AllByRecursion (IsOpenSessionAt accounts calls places) (open_sessions_after n server_nonce left others)
  turn_leaves_sessions_standing accounts calls places ends (Going session) is standing same working =
      appended_lists_keep_all (IsOpenSessionAt accounts calls places) others (open_session_of n session server_nonce ∷ []) standing
      ((is.0, same), tt)
  turn_leaves_sessions_standing accounts calls places ends Closed is standing same working = standing
  turn_leaves_sessions_standing accounts calls places ends (Halted session) is standing same working = absurd (cc working)
