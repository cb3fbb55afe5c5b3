-- There is one record of an event: one line, one place to which it leads, and at that place an answer is due.
use Rattle.std.proofs.Common.{◌≡◌, true, ℕ, List, refl, sym, ap, subst}
use Rattle.log_grammar.specs.Lines.{LogLine, heard, bad, gone, ClientLine, auth, auth_with, resp, abort, code, sync, from_client}
use Rattle.log_grammar.specs.Places.{Place, waits_first, waits_final, waits_code}
use Rattle.log_grammar.specs.Demands.{Demands}
use Rattle.log_grammar.specs.state_machine.Steps.{IsTransition}
use Rattle.log_grammar.proofs.lemmas.lines.ReadBack.{one_line}
use Rattle.sasl_desk.specs.Events.{ClientEvent, sends, goes_away}
use Rattle.sasl_desk.specs.Sessions.{IsRecord}
use Rattle.sasl_desk.specs.DueLines.{is_line_due, place_after_line, place_after_record}
use Rattle.sasl_desk.proofs.lemmas.turns.HeardLines.{from_client_is_injective}
use Rattle.sasl_desk.proofs.lemmas.turns.DueRecords.{standing_client_line_is_due, bad_and_gone_stand_in_turn}
use Rattle.sasl_desk.proofs.lemmas.runs.AnswerShapes.{IsAnswerDue}

-- what is recorded of an event at a place is one line
pub one_record : (event : ClientEvent) (at : Place) (one other : LogLine) → IsRecord event at one
    → IsRecord event at other → one ≡ other
one_record (sends text) at (heard line) (heard other) a b = ap heard
    (from_client_is_injective line other (one_line text (from_client line) (from_client other) a.0 b.0))
one_record (sends text) at (heard line) bad a b = absurd (b line a.0 a.1)
one_record (sends text) at bad (heard line) a b = absurd (a line b.0 b.1)
one_record (sends text) at bad bad a b = refl
one_record goes_away at gone gone a b = refl
one_record (sends text) at (heard line) other a b = absurd b
one_record (sends text) at bad other a b = absurd b
one_record (sends text) at one other a b = absurd a
one_record goes_away at gone other a b = absurd b
one_record goes_away at one other a b = absurd a

-- after a line of the client that was due, but for a code, an answer is due
heard_line_awaits_answer : (at : Place) (line : ClientLine) → is_line_due at line ≡ true
    → ((account : List ℕ) → at ≡ waits_code account → ⊥)
    → IsAnswerDue (place_after_line at line)
heard_line_awaits_answer at (auth mechanism) due apart = tt
heard_line_awaits_answer at (auth_with mechanism message) due apart = tt
heard_line_awaits_answer at abort due apart = tt
heard_line_awaits_answer (waits_first mechanism) (resp message) due apart = tt
heard_line_awaits_answer (waits_final mechanism account first challenge) (resp message) due apart = tt
heard_line_awaits_answer at (resp message) due apart = absurd (cc due)
heard_line_awaits_answer (waits_code account) (code text) due apart = absurd (apart account refl)
heard_line_awaits_answer at (code text) due apart = absurd (cc due)
heard_line_awaits_answer (waits_code account) (sync one two) due apart = absurd (apart account refl)
heard_line_awaits_answer at (sync one two) due apart = absurd (cc due)

-- after the record of an event an answer is due, if the session waited for no code
pub record_awaits_answer : (d : Demands) (event : ClientEvent) (at middle : Place) (kept : LogLine) → IsRecord event at kept
    → IsTransition d at kept middle
    → ((account : List ℕ) → at ≡ waits_code account → ⊥) → IsAnswerDue middle
record_awaits_answer d (sends text) at middle (heard line) is goes apart =
    let due = standing_client_line_is_due d line at middle goes in subst IsAnswerDue (sym due.1)
    (heard_line_awaits_answer at line due.0 apart)
record_awaits_answer d (sends text) at middle bad is goes apart =
    subst IsAnswerDue (sym ((bad_and_gone_stand_in_turn d at middle).0 goes).1) tt
record_awaits_answer d goes_away at middle gone is goes apart =
    subst IsAnswerDue (sym ((bad_and_gone_stand_in_turn d at middle).1 goes).1) tt
record_awaits_answer d (sends text) at middle kept is goes apart = absurd is
record_awaits_answer d goes_away at middle kept is goes apart = absurd is

-- the record of an event leads to one place
pub record_leads_to_place : (d : Demands) (event : ClientEvent) (at middle : Place) (kept : LogLine) → IsRecord event at kept
    → IsTransition d at kept middle
    → middle ≡ place_after_record at kept
record_leads_to_place d (sends text) at middle (heard line) is goes = (standing_client_line_is_due d line at middle goes).1
record_leads_to_place d (sends text) at middle bad is goes = ((bad_and_gone_stand_in_turn d at middle).0 goes).1
record_leads_to_place d goes_away at middle gone is goes = ((bad_and_gone_stand_in_turn d at middle).1 goes).1
record_leads_to_place d (sends text) at middle kept is goes = absurd is
record_leads_to_place d goes_away at middle kept is goes = absurd is
