-- Which lines of the client are due at a place, and to which places they lead, by functions that compute. They are for the contracts of
-- private functions: the promises of a desk and a hall have the relation of log_grammar, `IsTransition`, in their place. The law
-- `records_may_stand` says that the two agree (`DueLinesStand`, `BadLinesStand`, `GoneClientsStand`).
use Rattle.std.specs.Prelude.{ℕ, ◌≡◌, ◌↔◌, Bool, true, false, ◌||◌, List}
use Rattle.otp_core.specs.Attempt.{CodeTexts, one_text, two_texts}
use Rattle.log_grammar.specs.Lines.{LogLine, heard, bad, gone, ClientLine, auth, auth_with, resp, abort, code, sync}
use Rattle.log_grammar.specs.Places.{Place, offered, asks_bare, waits_first, got_first, waits_final, got_final, waits_code, got_code, leaving, ending}
use Rattle.log_grammar.specs.Demands.{Accounts, demands}
use Rattle.log_grammar.specs.state_machine.Steps.{IsTransition}

-- AUTH is due: after `S MECHS`
abbrev pub is_auth_due : Place → Bool
is_auth_due offered = true
is_auth_due place = false

-- RESP is due: after the empty challenge, and after the challenge to a client-first message
abbrev pub is_resp_due : Place → Bool
is_resp_due (waits_first mechanism) = true
is_resp_due (waits_final mechanism account client_first server_first) = true
is_resp_due place = false

-- CODE and SYNC are due: after `S OK`, and after the reply to a code
abbrev pub is_code_due : Place → Bool
is_code_due (waits_code account) = true
is_code_due place = false

-- it is the client's turn: some line of it is due
abbrev pub is_client_turn : Place → Bool
is_client_turn place = is_auth_due place || is_resp_due place || is_code_due place

-- a line of the client is due at a place. The client may give up whenever it is its turn.
abbrev pub is_line_due : Place → ClientLine → Bool
is_line_due place (auth mechanism) = is_auth_due place
is_line_due place (auth_with mechanism message) = is_auth_due place
is_line_due place (resp message) = is_resp_due place
is_line_due place abort = is_client_turn place
is_line_due place (code text) = is_code_due place
is_line_due place (sync first second) = is_code_due place

-- the place after a RESP, which has the client-first message or the client-final message; where no RESP is due, the same place
abbrev pub place_after_resp : Place → List ℕ → Place
place_after_resp (waits_first mechanism) message = got_first mechanism message
place_after_resp (waits_final mechanism account client_first server_first) message =
    got_final mechanism account client_first server_first message
place_after_resp place message = place

-- the place after a code, or after two in a row; where no code is due, the same place
abbrev pub place_after_codes : Place → CodeTexts → Place
place_after_codes (waits_code account) sent = got_code account sent
place_after_codes place sent = place

-- the place after a line of the client that is due
abbrev pub place_after_line : Place → ClientLine → Place
place_after_line place (auth mechanism) = asks_bare mechanism
place_after_line place (auth_with mechanism message) = got_first mechanism message
place_after_line place (resp message) = place_after_resp place message
place_after_line place abort = leaving
place_after_line place (code text) = place_after_codes place (one_text text)
place_after_line place (sync first second) = place_after_codes place (two_texts first second)

-- the place after what is recorded of the client: a line that is due, `C BAD` or `C GONE`
abbrev pub place_after_record : Place → LogLine → Place
place_after_record place (heard line) = place_after_line place line
place_after_record place bad = leaving
place_after_record place gone = ending
place_after_record place line = place

-- a line of the client may stand if and only if it is due, and leads to the place after it
abbrev pub DueLinesStand : Type 0
DueLinesStand = (accounts : Accounts) (place : Place) (line : ClientLine) (next : Place)
    → IsTransition (demands accounts) place (heard line) next
    ↔ ((is_line_due place line ≡ true) × (next ≡ place_after_record place (heard line)))

-- `C BAD` may stand if and only if it is the client's turn
abbrev pub BadLinesStand : Type 0
BadLinesStand = (accounts : Accounts) (place next : Place)
    → IsTransition (demands accounts) place bad next ↔ ((is_client_turn place ≡ true) × (next ≡ place_after_record place bad))

-- `C GONE` may stand if and only if it is the client's turn
abbrev pub GoneClientsStand : Type 0
GoneClientsStand = (accounts : Accounts) (place next : Place)
    → IsTransition (demands accounts) place gone next ↔ ((is_client_turn place ≡ true) × (next ≡ place_after_record place gone))
