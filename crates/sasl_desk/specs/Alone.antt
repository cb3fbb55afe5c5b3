-- What a session's client is sent up to the outcome depends only on what the session was asked up to there, the server's part of its
-- nonce and the entries of the accounts. So it depends on no other session.
use Rattle.std.specs.Prelude.{ℕ, ◌≡◌, List, [], ◌∷◌}
use Rattle.mac_core.specs.declared.mechanism.Mechanism.{Mechanism}
use Rattle.log_grammar.specs.Lines.{LogLine, said, accepts}
use Rattle.log_grammar.specs.Demands.{Accounts}
use Rattle.sasl_desk.specs.Runs.{Request, greets, hears, Call}

-- two requests are the same, apart from their moments: greetings with the same part of the nonce, or clients that do the same
abbrev pub IsSameRequest : Request → Request → Type 0
IsSameRequest (greets server_nonce) (greets other) = server_nonce ≡ other
IsSameRequest (hears event moment) (hears other later) = event ≡ other
IsSameRequest one other = ⊥

-- the calls of two sessions have the same requests, one after another
abbrev pub HaveSameRequests : List Call → List Call → Type 0
HaveSameRequests [] [] = Unit {0}
HaveSameRequests (call ∷ calls) (other ∷ others) = IsSameRequest call.request other.request × HaveSameRequests calls others
HaveSameRequests calls others = ⊥

-- the lines up to the first `S OK`, the outcome of a login that is accepted. A login that is refused ends with its outcome.
abbrev pub up_to_acceptance : List LogLine → List LogLine
up_to_acceptance [] = []
up_to_acceptance (said (accepts message) ∷ lines) = said (accepts message) ∷ []
up_to_acceptance (line ∷ lines) = line ∷ up_to_acceptance lines

-- two books have the same entries for logins; their tokens may differ
abbrev pub HaveSameEntries : Accounts → Accounts → Type 0
HaveSameEntries one other = (m : Mechanism) (name : List ℕ) → one.entry m name ≡ other.entry m name
