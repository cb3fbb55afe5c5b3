-- What is recorded of a line, and what came of it, is recorded of the event by which the line was sent, and came of that event.
use Rattle.std.proofs.Common.{◌≡◌, true, false, ℕ, List, refl, sym, ◌∙◌, subst, arith}
use Rattle.std.proofs.lemmas.Bool.{false≢true}
use Rattle.otp_core.specs.Attempt.{CodeTexts, one_text, two_texts, texts_of}
use Rattle.log_grammar.specs.Lines.{LogLine, heard, bad, ClientLine, code_line, from_client, IsLine}
use Rattle.log_grammar.specs.Places.{Place}
use Rattle.log_grammar.specs.Demands.{Accounts}
use Rattle.log_grammar.proofs.lemmas.lines.ReadBack.{one_line}
use Rattle.sasl_desk.specs.Events.{ClientEvent, sends, goes_away}
use Rattle.sasl_desk.specs.DueLines.{is_line_due}
use Rattle.sasl_desk.specs.Sessions.{IsLineOf, IsRecord, TakesMemory, SentWhatTakesMemory, LongTextsAreBad}
use Rattle.sasl_desk.specs.inner.SessionTurns.{IsRecordOfLine, ComesOfEvent, ComesOfLine, JudgesOnlyLine, JudgesOnlyWhatWasSent}
use Rattle.sasl_desk.specs.declared.session.event.HearResult.{HearResult}
use Rattle.sasl_desk.specs.declared.session.event.HearResult.TheVariants.{Answered, ToJudge}
use Rattle.sasl_desk.proofs.lemmas.turns.DueRecords.{due_line_may_be_heard, heard_line_is_due}

-- two lines of a client are the same if they are the same as lines of the protocol
pub from_client_is_injective : (one other : ClientLine) → from_client one ≡ from_client other → one ≡ other
from_client_is_injective one other same = cc

-- the record of a line is that of an event which is this line and, since a text is one line, no other
pub line_record_is_event_record : (event : ClientEvent) (line : ClientLine) (at : Place) (recorded : LogLine)
    → IsLineOf event line → IsRecordOfLine line at recorded
    → IsRecord event at recorded
line_record_is_event_record goes_away line at recorded is kept = absurd is
line_record_is_event_record (sends text) line at (heard recorded) is kept = (
  subst (λ (l : ClientLine). IsLine text (from_client l)) (sym kept.0) is,
  due_line_may_be_heard at recorded (subst (λ (l : ClientLine). is_line_due at l ≡ true) (sym kept.0) kept.1),
)
line_record_is_event_record (sends text) line at bad is kept = λ other also may_be_heard.
    let same = from_client_is_injective line other (one_line text (from_client line) (from_client other) is also) in
    false≢true (sym (subst (λ (l : ClientLine). is_line_due at l ≡ false) same kept) ∙ heard_line_is_due at other may_be_heard)
line_record_is_event_record (sends text) line at recorded is kept = absurd kept

-- what came of a line of the client came of the event that was this line
pub line_result_is_event_result : (accounts : Accounts) (server_nonce : List ℕ) (event : ClientEvent) (line : ClientLine)
    (at : Place)
    (h : HearResult) (message : List ℕ)
    → IsLineOf event line → ComesOfLine accounts server_nonce line at h message → ComesOfEvent accounts server_nonce event at h message
line_result_is_event_result accounts server_nonce event line at (Answered turn) message is came =
    record { is_record = line_record_is_event_record event line at _ is came.is_record; is_answer = came.is_answer }
line_result_is_event_result accounts server_nonce event line at (ToJudge name sent) message is came =
    record { place = came.0; is_record = line_record_is_event_record event line at (heard (code_line (texts_of sent))) is came.1 }

-- a text that is not a line of a client is recorded as `C BAD`
pub text_of_no_line_is_recorded_bad : (event : ClientEvent) (at : Place) → ((line : ClientLine) → IsLineOf event line → ⊥)
    → (event ≡ goes_away → ⊥)
    → IsRecord event at bad
text_of_no_line_is_recorded_bad goes_away at no_line sent = absurd (sent refl)
text_of_no_line_is_recorded_bad (sends text) at no_line sent = λ line is. absurd (no_line line is)

-- the law: a text with more bytes than a client's line may have is recorded as `C BAD`
pub long_texts_are_bad : LongTextsAreBad
long_texts_are_bad text at (heard line) long is = let short = is.0.short in absurd (omega (arith, short, long))
long_texts_are_bad text at bad long is = refl
long_texts_are_bad text at kept long is = absurd is

-- a code that is to be judged is the event's if it is that of the line that the event was
pub judged_code_was_sent : (event : ClientEvent) (line : ClientLine) (h : HearResult) → IsLineOf event line → JudgesOnlyLine h line
    → JudgesOnlyWhatWasSent h event
judged_code_was_sent event line (Answered turn) is same = tt
judged_code_was_sent event line (ToJudge name sent) is same = subst (λ (l : ClientLine). IsLineOf event l) same is

-- a line with a code, or with two in a row, takes memory to answer
code_takes_memory : (sent : CodeTexts) → TakesMemory (code_line sent)
code_takes_memory (one_text text) = tt
code_takes_memory (two_texts first second) = tt

-- a client that sent a code, or two in a row, sent a line whose answer takes memory
pub sent_code_takes_memory : (event : ClientEvent) (sent : CodeTexts) → IsLineOf event (code_line sent) → SentWhatTakesMemory event
sent_code_takes_memory event sent is = (code_line sent, is, code_takes_memory sent)
