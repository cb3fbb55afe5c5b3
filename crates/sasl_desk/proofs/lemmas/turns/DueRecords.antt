-- What is recorded of a client may stand if and only if it is due.
use Rattle.std.proofs.Common.{◌≡◌, true, refl, sym, subst}
use Rattle.log_grammar.specs.Lines.{heard, bad, gone, ClientLine, auth, auth_with, resp, abort, code, sync}
use Rattle.log_grammar.specs.Places.{Place, offered, waits_first, waits_final, waits_code, leaving, ending}
use Rattle.log_grammar.specs.Demands.{Demands, demands, no_demands}
use Rattle.log_grammar.specs.state_machine.Steps.{IsTransition}
use Rattle.sasl_desk.specs.Sessions.{MayBeHeard}
use Rattle.sasl_desk.specs.DueLines.{is_client_turn, is_line_due, place_after_line, DueLinesStand, BadLinesStand, GoneClientsStand}

-- a line that is due may stand, and leads to the place after it
pub due_line_may_stand : (d : Demands) (line : ClientLine) (at : Place) → is_line_due at line ≡ true
    → IsTransition d at (heard line) (place_after_line at line)
due_line_may_stand d (auth mechanism) offered due = refl
due_line_may_stand d (auth mechanism) at due = absurd (cc due)
due_line_may_stand d (auth_with mechanism message) offered due = refl
due_line_may_stand d (auth_with mechanism message) at due = absurd (cc due)
due_line_may_stand d (resp message) (waits_first mechanism) due = refl
due_line_may_stand d (resp message) (waits_final mechanism account first challenge) due = refl
due_line_may_stand d (resp message) at due = absurd (cc due)
due_line_may_stand d abort offered due = refl
due_line_may_stand d abort (waits_first mechanism) due = refl
due_line_may_stand d abort (waits_final mechanism account first challenge) due = refl
due_line_may_stand d abort (waits_code account) due = refl
due_line_may_stand d abort at due = absurd (cc due)
due_line_may_stand d (code text) (waits_code account) due = refl
due_line_may_stand d (code text) at due = absurd (cc due)
due_line_may_stand d (sync one two) (waits_code account) due = refl
due_line_may_stand d (sync one two) at due = absurd (cc due)

-- a line that may stand is due, and leads nowhere else
pub standing_client_line_is_due : (d : Demands) (line : ClientLine) (at next : Place) → IsTransition d at (heard line) next
    → (is_line_due at line ≡ true)
    × (next ≡ place_after_line at line)
standing_client_line_is_due d (auth mechanism) offered next goes = (refl, goes)
standing_client_line_is_due d (auth mechanism) at next goes = absurd goes
standing_client_line_is_due d (auth_with mechanism message) offered next goes = (refl, goes)
standing_client_line_is_due d (auth_with mechanism message) at next goes = absurd goes
standing_client_line_is_due d (resp message) (waits_first mechanism) next goes = (refl, goes)
standing_client_line_is_due d (resp message) (waits_final mechanism account first challenge) next goes = (refl, goes)
standing_client_line_is_due d (resp message) at next goes = absurd goes
standing_client_line_is_due d abort offered next goes = (refl, goes)
standing_client_line_is_due d abort (waits_first mechanism) next goes = (refl, goes)
standing_client_line_is_due d abort (waits_final mechanism account first challenge) next goes = (refl, goes)
standing_client_line_is_due d abort (waits_code account) next goes = (refl, goes)
standing_client_line_is_due d abort at next goes = absurd goes
standing_client_line_is_due d (code text) (waits_code account) next goes = (refl, goes)
standing_client_line_is_due d (code text) at next goes = absurd goes
standing_client_line_is_due d (sync one two) (waits_code account) next goes = (refl, goes)
standing_client_line_is_due d (sync one two) at next goes = absurd goes

-- a line that is due may be heard
pub due_line_may_be_heard : (at : Place) (line : ClientLine) → is_line_due at line ≡ true → MayBeHeard at line
due_line_may_be_heard at line due = (place_after_line at line, due_line_may_stand no_demands line at due)

-- a line that may be heard is due
pub heard_line_is_due : (at : Place) (line : ClientLine) → MayBeHeard at line → is_line_due at line ≡ true
heard_line_is_due at line (next, goes) = (standing_client_line_is_due no_demands line at next goes).0

-- `C BAD` and `C GONE` may stand when it is the client's turn
pub bad_and_gone_may_stand : (d : Demands) (at : Place) → is_client_turn at ≡ true
    → IsTransition d at bad leaving × IsTransition d at gone ending
bad_and_gone_may_stand d offered turn = (refl, refl)
bad_and_gone_may_stand d (waits_first mechanism) turn = (refl, refl)
bad_and_gone_may_stand d (waits_final mechanism account first challenge) turn = (refl, refl)
bad_and_gone_may_stand d (waits_code account) turn = (refl, refl)
bad_and_gone_may_stand d at turn = absurd (cc turn)

-- `C BAD` and `C GONE` stand only when it is the client's turn; the one leads to where a bare `S NO` is due, the other to where
-- only `E` is due
pub bad_and_gone_stand_in_turn : (d : Demands) (at next : Place)
    → (IsTransition d at bad next → (is_client_turn at ≡ true) × (next ≡ leaving))
    × (IsTransition d at gone next → (is_client_turn at ≡ true) × (next ≡ ending))
bad_and_gone_stand_in_turn d offered next = (λ goes. (refl, goes), λ goes. (refl, goes))
bad_and_gone_stand_in_turn d (waits_first mechanism) next = (λ goes. (refl, goes), λ goes. (refl, goes))
bad_and_gone_stand_in_turn d (waits_final mechanism account first challenge) next = (λ goes. (refl, goes), λ goes. (refl, goes))
bad_and_gone_stand_in_turn d (waits_code account) next = (λ goes. (refl, goes), λ goes. (refl, goes))
bad_and_gone_stand_in_turn d at next = (λ goes. absurd goes, λ goes. absurd goes)

-- the law: a line of the client may stand if and only if it is due, and leads to the place after it
pub due_lines_stand : DueLinesStand
due_lines_stand accounts at line next = (
  standing_client_line_is_due (demands accounts) line at next,
  λ due. subst (λ (p : Place). IsTransition (demands accounts) at (heard line) p) (sym due.1)
      (due_line_may_stand (demands accounts) line at due.0),
)

-- the law: `C BAD` may stand if and only if it is the client's turn
pub bad_lines_stand : BadLinesStand
bad_lines_stand accounts at next = (
  (bad_and_gone_stand_in_turn (demands accounts) at next).0,
  λ due. subst (λ (p : Place). IsTransition (demands accounts) at bad p) (sym due.1)
      (bad_and_gone_may_stand (demands accounts) at due.0).0,
)

-- the law: `C GONE` may stand if and only if it is the client's turn
pub gone_clients_stand : GoneClientsStand
gone_clients_stand accounts at next = (
  (bad_and_gone_stand_in_turn (demands accounts) at next).1,
  λ due. subst (λ (p : Place). IsTransition (demands accounts) at gone p) (sym due.1)
      (bad_and_gone_may_stand (demands accounts) at due.0).1,
)
