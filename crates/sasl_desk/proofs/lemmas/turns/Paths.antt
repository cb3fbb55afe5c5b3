-- The lines of a turn are a path from the place where the session stands to one where all is said, and a log goes on by them.
use Rattle.std.proofs.Common.{◌≡◌, true, ℕ, List, [], ◌∷◌, ◌++◌, reverse, refl, sym, subst, append_assoc, append-nil}
use Rattle.std.specs.List.{AllByRecursion}
use Rattle.std.proofs.lemmas.Bool.{false≢true}
use Rattle.std.specs.declared.option.Option.{Option}
use Rattle.std.specs.declared.option.Option.TheVariants.{None, Some}
use Rattle.otp_core.specs.Attempt.{CodeTexts}
use Rattle.otp_core.specs.declared.token.reply.Reply.{Reply}
use Rattle.account_book.specs.AccountAttempt.{AccountAttempt, account_attempt_of}
use Rattle.log_grammar.specs.Lines.{LogLine, said, heard, bad, gone, replies, code_line}
use Rattle.log_grammar.specs.Places.{Place, got_code, between, offered, waits_first, waits_final, waits_code, ending, halted}
use Rattle.log_grammar.specs.Demands.{Accounts, Demands, demands, HaveDueReplies, HasDueReply}
use Rattle.log_grammar.specs.state_machine.Steps.{IsTransition, told_at}
use Rattle.log_grammar.specs.Begins.{Begins}
use Rattle.log_grammar.proofs.lemmas.state_machine.LogSteps.{log_goes_on}
use Rattle.log_grammar.proofs.lemmas.state_machine.Shortening.{code_may_stand}
use Rattle.sasl_desk.specs.Events.{ClientEvent, sends, goes_away}
use Rattle.sasl_desk.specs.DueLines.{is_client_turn, place_after_record}
use Rattle.sasl_desk.specs.Sessions.{IsSessionAt, IsRecord, IsPath}
use Rattle.sasl_desk.specs.inner.SessionTurns.{IsTurnOnEvent, recorded_shown, turn_lines, IsLeftAt}
use Rattle.sasl_desk.specs.declared.session.Session.{Session}
use Rattle.sasl_desk.specs.declared.session.Session.TheVariants.{WaitAuth, WaitFirst, WaitFinal, WaitCode}
use Rattle.sasl_desk.specs.declared.session.event.Turn.{Turn}
use Rattle.sasl_desk.specs.Runs.{IsAtRest}
use Rattle.sasl_desk.proofs.lemmas.turns.AnswerLines.{answer_lines_have}
use Rattle.sasl_desk.proofs.lemmas.turns.DueRecords.{due_line_may_stand, heard_line_is_due, bad_and_gone_may_stand}

-- the place where a session stands is its client's turn
pub session_has_client_turn : (accounts : Accounts) (at : Place) (session : Session) → IsSessionAt accounts at session
    → is_client_turn at ≡ true
session_has_client_turn accounts at WaitAuth is = rw is refl
session_has_client_turn accounts at (WaitFirst mechanism) is = rw is refl
session_has_client_turn accounts at (WaitFinal waiting) (client_first, server_first, place, stands) = rw place refl
session_has_client_turn accounts at (WaitCode name) is = rw is refl

-- at a client's turn nothing is left to be said
pub client_turn_rests : (at : Place) → is_client_turn at ≡ true → IsAtRest at
client_turn_rests between turn = tt
client_turn_rests halted turn = tt
client_turn_rests offered turn = (ending, refl)
client_turn_rests (waits_first mechanism) turn = (ending, refl)
client_turn_rests (waits_final mechanism account first challenge) turn = (ending, refl)
client_turn_rests (waits_code account) turn = (ending, refl)
client_turn_rests at turn = absurd (cc turn)

-- where a session is left, whether it goes on or has ended, nothing is left to be said
pub left_session_rests : (accounts : Accounts) (at : Place) (session : Option Session) → IsLeftAt accounts at session → IsAtRest at
left_session_rests accounts at None is = rw is tt
left_session_rests accounts at (Some session) is = client_turn_rests at (session_has_client_turn accounts at session is)

-- a session is not left at a halt
pub left_place_is_not_halted : (accounts : Accounts) (at : Place) (session : Option Session) → IsLeftAt accounts at session → at ≡ halted
    → ⊥
left_place_is_not_halted accounts at None is same = cc (is, same)
left_place_is_not_halted accounts at (Some session) is same =
    false≢true (subst (λ (p : Place). is_client_turn p ≡ true) same (session_has_client_turn accounts at session is))

-- what is recorded of an event may stand at a client's turn
pub record_may_stand : (d : Demands) (at : Place) (event : ClientEvent) (recorded : LogLine) → is_client_turn at ≡ true
    → IsRecord event at recorded
    → IsTransition d at recorded (place_after_record at recorded)
record_may_stand d at (sends text) (heard line) turn is = due_line_may_stand d line at (heard_line_is_due at line is.1)
record_may_stand d at (sends text) bad turn is = (bad_and_gone_may_stand d at turn).0
record_may_stand d at goes_away gone turn is = (bad_and_gone_may_stand d at turn).1
record_may_stand d at event recorded turn is = absurd is

-- the lines of a turn are a path from the session's place to the one after the turn
pub turn_is_path : (accounts : Accounts) (server_nonce : List ℕ) (event : ClientEvent) (at : Place) (session : Session) (turn : Turn)
    (message : List ℕ)
    → IsSessionAt accounts at session
    → (t : IsTurnOnEvent accounts server_nonce event at turn message)
    → IsPath (demands accounts) at (turn_lines turn message) t.is_answer.next
turn_is_path accounts server_nonce event at session turn message is t = (
  place_after_record at (recorded_shown turn.recorded),
  record_may_stand (demands accounts) at event (recorded_shown turn.recorded) (session_has_client_turn accounts at session is) t.is_record,
  t.is_answer.path,
)

-- the line is not a reply to a code
abbrev pub IsNoReply : LogLine → Type 0
IsNoReply (said (replies moment reply)) = ⊥
IsNoReply line = Unit {0}

-- what is recorded of a client is not a reply
pub record_is_no_reply : (event : ClientEvent) (at : Place) (recorded : LogLine) → IsRecord event at recorded → IsNoReply recorded
record_is_no_reply (sends text) at (heard line) is = tt
record_is_no_reply (sends text) at bad is = tt
record_is_no_reply goes_away at gone is = tt
record_is_no_reply event at recorded is = absurd is

-- no line of a turn is a reply
pub turn_has_no_reply : (accounts : Accounts) (server_nonce : List ℕ) (event : ClientEvent) (at : Place) (turn : Turn) (message : List ℕ)
    → IsTurnOnEvent accounts server_nonce event at turn message
    → AllByRecursion IsNoReply (turn_lines turn message)
turn_has_no_reply accounts server_nonce event at turn message t = (
  record_is_no_reply event at (recorded_shown turn.recorded) t.is_record,
  answer_lines_have IsNoReply (λ text. tt) (λ text. tt) (λ text. tt) tt turn.answer.says turn.answer.session message,
)

-- a line that is not a reply tells nothing
pub no_reply_tells_nothing : (at : Place) (line : LogLine) → IsNoReply line → told_at at line ≡ []
no_reply_tells_nothing (got_code account sent) (said (replies moment reply)) no_reply = absurd no_reply
no_reply_tells_nothing (got_code account sent) line no_reply = refl
no_reply_tells_nothing at line no_reply = refl

-- a log goes on by a path without replies, and tells nothing new
pub log_goes_on_by_path : (accounts : Accounts) (log : List LogLine) (at : Place) (told : List AccountAttempt)
    (lines : List LogLine) (next : Place)
    → Begins (demands accounts) log at told → IsPath (demands accounts) at lines next → AllByRecursion IsNoReply lines
    → Begins (demands accounts) (log ++ lines) next told
log_goes_on_by_path accounts log at told [] next begins path no_replies =
    let here = subst (λ (p : Place). Begins (demands accounts) log p told) (sym path) begins in
    subst (λ (l : List LogLine). Begins (demands accounts) l next told) (sym (append-nil log)) here
log_goes_on_by_path accounts log at told (line ∷ lines) next begins (middle, goes, path) no_replies =
    let quiet = no_reply_tells_nothing at line no_replies.0 in
    let due = subst (λ (t : List AccountAttempt). HaveDueReplies (demands accounts) (reverse told) t) (sym quiet) tt in
    let step = log_goes_on (demands accounts) log at told line middle begins goes due in
    let told_here = subst (λ (t : List AccountAttempt). Begins (demands accounts) (log ++ line ∷ []) middle (told ++ t)) quiet step in
    let here = subst (λ (t : List AccountAttempt). Begins (demands accounts) (log ++ line ∷ []) middle t) (append-nil told) told_here in
    subst (λ (l : List LogLine). Begins (demands accounts) l next told) (append_assoc log (line ∷ []) lines)
    (log_goes_on_by_path accounts (log ++ line ∷ []) middle told lines next here path no_replies.1)

-- a log goes on by a code, or two in a row, and its reply
pub log_goes_on_by_reply : (accounts : Accounts) (log : List LogLine) (name : List ℕ) (told : List AccountAttempt)
    (moment : ℕ) (sent : CodeTexts) (reply : Option Reply)
    → Begins (demands accounts) log (waits_code name) told
    → HasDueReply accounts (reverse told) (account_attempt_of name moment sent reply)
    → Begins (demands accounts) (log ++ heard (code_line sent) ∷ said (replies moment reply) ∷ []) (waits_code name)
    (told ++ account_attempt_of name moment sent reply ∷ [])
log_goes_on_by_reply accounts log name told moment sent reply begins due =
    let line = heard (code_line sent) in
    let first = log_goes_on (demands accounts) log (waits_code name) told line (got_code name sent) begins (code_may_stand name sent) tt in
    let quiet = subst (λ (t : List AccountAttempt). Begins (demands accounts) (log ++ line ∷ []) (got_code name sent) t)
    (append-nil told) first in
    let second = log_goes_on (demands accounts) (log ++ line ∷ []) (got_code name sent) told (said (replies moment reply)) (waits_code name) quiet refl
    (due, tt) in
    subst (λ (l : List LogLine). Begins (demands accounts) l (waits_code name) (told ++ account_attempt_of name moment sent reply ∷ []))
    (append_assoc log (line ∷ []) (said (replies moment reply) ∷ [])) second
