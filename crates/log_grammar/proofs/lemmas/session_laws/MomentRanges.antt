-- The moments of a log's replies are in their range, since the log's lines are in theirs.
use Rattle.std.proofs.Common.{inl, inr, ℕ, Bool, true, false, List, [], ◌∷◌, sym, subst}
use Rattle.std.specs.Prelude.{flat_map}
use Rattle.std.specs.List.{AllByRecursion, AllZip}
use Rattle.otp_core.specs.Ranges.{IsMoment}
use Rattle.scram_text.proofs.lemmas.ListEnds.{appended_lists_keep_all}
use Rattle.account_book.specs.AccountAttempt.{AccountAttempt}
use Rattle.log_grammar.specs.Lines.{LogLine, IsLogLineInRange, IsLogLine}
use Rattle.log_grammar.specs.Places.{Place}
use Rattle.log_grammar.specs.Demands.{Accounts, demands}
use Rattle.log_grammar.specs.Sessions.{Part, closing, RecordedSession, session_part, session_lines, session_told, session}
use Rattle.log_grammar.specs.Begins.{Begins, AreLines}
use Rattle.log_grammar.proofs.lemmas.session_laws.LaterLines.{HoldsFromTheLast, later_lines_hold}
use Rattle.log_grammar.proofs.lemmas.ListEnds.{front_keeps_all, back_keeps_all}

-- all lines are in their ranges
abbrev pub Ranged : List LogLine → Type 0
Ranged lines = AllByRecursion IsLogLineInRange lines

-- the moments of all replies are in their range
abbrev pub Timed : List AccountAttempt → Type 0
Timed told = AllByRecursion (λ t. IsMoment t.moment) told

-- if the lines are in their ranges, so are the moments of the replies that they record
abbrev InTime : Part → Type 0
InTime part = Ranged part.lines → Timed part.told

-- the end of a session tells of no moment out of its range, since it tells nothing
pub closing_tells_in_time : (closed : Bool) → InTime (closing closed)
closing_tells_in_time true h = tt
closing_tells_in_time false h = tt

-- if the lines of a session after its first are in their ranges, what they tell is at moments in their range
later_lines_tell_in_time : HoldsFromTheLast (λ lines place told. Ranged lines → Timed told)
later_lines_tell_in_time = record {
  no_line = λ place unfinished is h. tt;
  last_end = λ h. tt;
  last_halt = λ h. tt;
  inner_line = λ line inner lines place told in_time h. in_time h.1;
  reply = λ account is sent moment reply lines place told in_time h. (h.0.0, in_time h.1);
}

-- if the lines of a session are in their ranges, so are the moments of its replies
pub session_tells_in_time : (s : RecordedSession) → InTime (session_part s)
session_tells_in_time (session names l) h =
    later_lines_hold (λ lines place told. Ranged lines → Timed told) later_lines_tell_in_time l h.1

-- if the lines of sessions, one after another, are in their ranges, so are the moments of their replies
pub sessions_tell_in_time : (sessions : List RecordedSession) → Ranged (flat_map session_lines sessions)
    → Timed (flat_map session_told sessions)
sessions_tell_in_time [] h = tt
sessions_tell_in_time (s ∷ sessions) h =
    let own = front_keeps_all IsLogLineInRange (session_lines s) (flat_map session_lines sessions) h in
    let others = back_keeps_all IsLogLineInRange (session_lines s) (flat_map session_lines sessions) h in
    appended_lists_keep_all (λ t. IsMoment t.moment) (session_told s) (flat_map session_told sessions) (session_tells_in_time s own)
    (sessions_tell_in_time sessions others)

-- lines that were read are in their ranges
read_lines_are_in_range : (texts : List (List ℕ)) (lines : List LogLine) → AllZip IsLogLine texts lines → Ranged lines
read_lines_are_in_range [] [] h = tt
read_lines_are_in_range [] (line ∷ lines) h = absurd h
read_lines_are_in_range (text ∷ texts) [] h = absurd h
read_lines_are_in_range (text ∷ texts) (line ∷ lines) h = (h.0.ranges, read_lines_are_in_range texts lines h.1)

-- the law: the moment of each reply in a log that was read is in its range
pub moments_are_in_range : (accounts : Accounts) (bytes : List ℕ) (lines : List LogLine) (rest : List ℕ) (place : Place)
    (told : List AccountAttempt)
    → AreLines bytes lines rest → Begins (demands accounts) lines place told → AllByRecursion (λ t. IsMoment t.moment) told
moments_are_in_range accounts bytes lines rest place told are (inl none) = subst Timed (sym none.2) tt
moments_are_in_range accounts bytes lines rest place told are (inr s) =
    let all = subst Ranged s.lines (read_lines_are_in_range are.0 lines are.2) in
    subst Timed (sym s.told_are) (sessions_tell_in_time s.sessions all.1)
