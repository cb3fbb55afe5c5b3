-- What a session makes of what its client does, and what the client is sent.
use Rattle.std.specs.Prelude.{ℕ, ◌≡◌, true, false, List, [], ◌∷◌, ◌++◌}
use Rattle.std.specs.List.{AllByRecursion}
use Rattle.std.specs.declared.option.Option.{Option}
use Rattle.std.specs.declared.option.Option.TheVariants.{None, Some}
use Rattle.otp_core.specs.Attempt.{CodeTexts, texts_of}
use Rattle.scram_ends.specs.declared.verdict.Verdict.{Verdict}
use Rattle.scram_ends.specs.declared.verdict.Verdict.TheVariants as verdict
use Rattle.log_grammar.specs.Lines.{LogLine, said, heard, bad, gone, ended, cont, accepts, refuses, ClientLine, code_line}
use Rattle.log_grammar.specs.Places.{Place, between, asks_bare, got_first, waits_code, leaving}
use Rattle.log_grammar.specs.Demands.{Accounts, demands, IsUnoffered, IsNotTakenUp}
use Rattle.sasl_log.specs.Shown.{client_shown}
use Rattle.sasl_desk.specs.Events.{ClientEvent}
use Rattle.sasl_desk.specs.DueLines.{is_line_due, place_after_record}
use Rattle.sasl_desk.specs.Sessions.{IsSessionAt, IsLineOf, IsRecord, IsPath, IsChallengeWith, LacksExtensions}
use Rattle.sasl_desk.specs.declared.session.Session.{Session}
use Rattle.sasl_desk.specs.declared.session.Session.TheVariants.{WaitCode}
use Rattle.sasl_desk.specs.declared.session.event.Recorded.{Recorded}
use Rattle.sasl_desk.specs.declared.session.event.Recorded.TheVariants as recorded
use Rattle.sasl_desk.specs.declared.session.event.Saying.{Saying}
use Rattle.sasl_desk.specs.declared.session.event.Saying.TheVariants.{Nothing, Continues, Accepts, Refuses}
use Rattle.sasl_desk.specs.declared.session.event.Answer.{Answer}
use Rattle.sasl_desk.specs.declared.session.event.Turn.{Turn}
use Rattle.sasl_desk.specs.declared.session.event.HearResult.{HearResult}
use Rattle.sasl_desk.specs.declared.session.event.HearResult.TheVariants.{Answered, ToJudge}

-- the session stands at the place; or there is none, and one may begin
abbrev pub IsLeftAt : Accounts → Place → Option Session → Type 0
IsLeftAt accounts place (Some session) = IsSessionAt accounts place session
IsLeftAt accounts place None = place ≡ between

-- the line of a log that records this
abbrev pub recorded_shown : Recorded → LogLine
recorded_shown (recorded.Line line) = heard (client_shown line)
recorded_shown recorded.Bad = bad
recorded_shown recorded.Gone = gone

-- what is recorded of this line of the client
abbrev pub IsRecordOfLine : ClientLine → Place → LogLine → Type 0
IsRecordOfLine line place (heard logged) = (logged ≡ line) × (is_line_due place line ≡ true)
IsRecordOfLine line place bad = is_line_due place line ≡ false
IsRecordOfLine line place other = ⊥

-- an answer of these parts
abbrev pub answer_of : Saying → Option Session → Answer
answer_of says session = record { says = says; session = session }

-- the answer with a verdict: the client of an accepted login may send codes, a refused one is sent away
abbrev pub verdict_answer : Verdict → (name : List ℕ) → Answer
verdict_answer verdict.Accepted name = answer_of Accepts (Some (WaitCode name))
verdict_answer (verdict.Refused why) name = answer_of Refuses None

-- the line with which the server says this, with its message
abbrev pub said_lines : Saying → (message : List ℕ) → List LogLine
said_lines Nothing message = []
said_lines Continues message = said (cont message) ∷ []
said_lines Accepts message = said (accepts message) ∷ []
said_lines Refuses message = said (refuses message) ∷ []

-- `E`, if the session ended
abbrev pub end_lines : Option Session → List LogLine
end_lines (Some session) = []
end_lines None = ended ∷ []

-- the lines of an answer, with the message of what is said
abbrev pub lines_of_answer : Answer → (message : List ℕ) → List LogLine
lines_of_answer answer message = said_lines answer.says message ++ end_lines answer.session

-- the lines of a turn
abbrev pub turn_lines : Turn → (message : List ℕ) → List LogLine
turn_lines turn message = recorded_shown turn.recorded ∷ lines_of_answer turn.answer message

-- the lines of what came of an event: for a code that is to be judged, only its record
abbrev pub heard_lines : HearResult → (message : List ℕ) → List LogLine
heard_lines (Answered turn) message = turn_lines turn message
heard_lines (ToJudge name sent) message = heard (code_line (texts_of sent)) ∷ []

-- a bare `S NO` is due: to a client that gave up or whose line was not due, to a mechanism that is not offered, and to a
-- client-first message that a server does not take up
abbrev pub IsBareNoDue : Place → Type 0
IsBareNoDue leaving = Unit {0}
IsBareNoDue (asks_bare mechanism) = IsUnoffered mechanism
IsBareNoDue (got_first mechanism client_first) = IsNotTakenUp mechanism client_first
IsBareNoDue place = ⊥

-- the answer that is due at a place: its lines may stand there, the session then stands at the place after them, and what the
-- demands leave open is as this server chooses it
pub record IsAnswer (accounts : Accounts) (server_nonce : List ℕ) (place : Place) (answer : Answer) (message : List ℕ) : Type 0 where
  pub next : Place
  pub path : IsPath (demands accounts) place (lines_of_answer answer message) next
  pub left : IsLeftAt accounts next answer.session
  pub challenge : IsChallengeWith accounts server_nonce next
  pub plain : AllByRecursion LacksExtensions (lines_of_answer answer message)

-- a turn: what the client did is recorded in this way, and answered as is due after the record
pub record IsTurn (accounts : Accounts) (server_nonce : List ℕ) (IsRecordedAs : LogLine → Type 0) (place : Place)
    (turn : Turn) (message : List ℕ) : Type 0 where
  pub is_record : IsRecordedAs (recorded_shown turn.recorded)
  pub is_answer : IsAnswer accounts server_nonce (place_after_record place (recorded_shown turn.recorded)) turn.answer message

-- a turn on this event
abbrev pub IsTurnOnEvent : Accounts → (server_nonce : List ℕ) → ClientEvent → Place → Turn → (message : List ℕ) → Type 0
IsTurnOnEvent accounts server_nonce event place turn message = IsTurn accounts server_nonce (IsRecord event place) place turn message

-- a code, or two in a row, that the account's client sent when one was due
pub record IsDueCode (event : ClientEvent) (at : Place) (name : List ℕ) (sent : CodeTexts) : Type 0 where
  pub place : at ≡ waits_code name
  pub is_record : IsRecord event at (heard (code_line sent))

-- what came of an event: a turn, or a code that is to be judged
abbrev pub ComesOfEvent : Accounts → (server_nonce : List ℕ) → ClientEvent → Place → HearResult → (message : List ℕ) → Type 0
ComesOfEvent accounts server_nonce event place (Answered turn) message = IsTurnOnEvent accounts server_nonce event place turn message
ComesOfEvent accounts server_nonce event place (ToJudge name sent) message = IsDueCode event place name (texts_of sent)

-- a turn in which the client sent this line
abbrev pub IsTurnOnLine : Accounts → (server_nonce : List ℕ) → ClientLine → Place → Turn → (message : List ℕ) → Type 0
IsTurnOnLine accounts server_nonce line place turn message = IsTurn accounts server_nonce (IsRecordOfLine line place) place turn message

-- what came of this line of the client: a turn, or a code that is to be judged
abbrev pub ComesOfLine : Accounts → (server_nonce : List ℕ) → ClientLine → Place → HearResult → (message : List ℕ) → Type 0
ComesOfLine accounts server_nonce line place (Answered turn) message = IsTurnOnLine accounts server_nonce line place turn message
ComesOfLine accounts server_nonce line place (ToJudge name sent) message =
    (place ≡ waits_code name) × IsRecordOfLine line place (heard (code_line (texts_of sent)))

-- if a code is to be judged, the session waits for one of this account
abbrev pub JudgesOnlyWhereCodeIsDue : HearResult → Session → Type 0
JudgesOnlyWhereCodeIsDue (Answered turn) session = Unit {0}
JudgesOnlyWhereCodeIsDue (ToJudge name sent) session = session ≡ WaitCode name

-- a code is to be judged only if this is the client's line that contains it
abbrev pub JudgesOnlyLine : HearResult → ClientLine → Type 0
JudgesOnlyLine (Answered turn) line = Unit {0}
JudgesOnlyLine (ToJudge name sent) line = line ≡ code_line (texts_of sent)

-- a code is to be judged only if the client sent it
abbrev pub JudgesOnlyWhatWasSent : HearResult → ClientEvent → Type 0
JudgesOnlyWhatWasSent (Answered turn) event = Unit {0}
JudgesOnlyWhatWasSent (ToJudge name sent) event = IsLineOf event (code_line (texts_of sent))
