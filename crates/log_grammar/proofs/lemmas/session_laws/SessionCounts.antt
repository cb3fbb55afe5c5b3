-- The lines that begin sessions are as many as the sessions.
use Rattle.std.proofs.Common.{◌≡◌, ◌+◌, ℕ, List, [], ◌∷◌, length, refl, ◌∙◌, ap, cond, arith}
use Rattle.std.specs.Prelude.{flat_map, count_by}
use Rattle.std.proofs.lemmas.List.Sums.{sum_by-append}
use Rattle.log_grammar.specs.Lines.{LogLine, header_one, said, mechs}
use Rattle.log_grammar.specs.Sessions.{after_mechs, RecordedSession, session_lines, session}
use Rattle.log_grammar.specs.Counts.{is_mechs, counts_of}
use Rattle.log_grammar.proofs.lemmas.session_laws.LaterLines.{IsInnerLine, HoldsFromTheLast, later_lines_hold}

-- none of the lines begins a session
abbrev BeginNone : List LogLine → Type 0
BeginNone lines = count_by is_mechs lines ≡ 0

-- if none of some lines begins a session, none does with an inner line of a session before them
inner_line_begins_none : (line : LogLine) → IsInnerLine line → (lines : List LogLine) → BeginNone lines → BeginNone (line ∷ lines)
inner_line_begins_none (said (mechs names)) inner lines none = absurd inner
inner_line_begins_none line inner lines none = none

-- no line of a session after its first begins a session
later_lines_begin_none : HoldsFromTheLast (λ lines place told. BeginNone lines)
later_lines_begin_none = record {
  no_line = λ place unfinished is. refl;
  last_end = refl;
  last_halt = refl;
  inner_line = λ line inner lines place told. inner_line_begins_none line inner lines;
  reply = λ account is sent moment reply lines place told none. none;
}

-- one line of a session begins a session
session_begins_one : (s : RecordedSession) → count_by is_mechs (session_lines s) ≡ 1
session_begins_one (session names l) =
    sum_by-append (λ x. cond (is_mechs x) 1 0) (said (mechs names) ∷ []) (after_mechs l).lines
    ∙ ap (λ (n : ℕ). 1 + n) (later_lines_hold (λ lines place told. BeginNone lines) later_lines_begin_none l)

-- in the lines of some sessions as many lines begin a session as there are sessions
sessions_begin_as_many : (sessions : List RecordedSession) → count_by is_mechs (flat_map session_lines sessions) ≡ length sessions
sessions_begin_as_many [] = refl
sessions_begin_as_many (s ∷ sessions) =
    sum_by-append (λ x. cond (is_mechs x) 1 0) (session_lines s) (flat_map session_lines sessions)
    ∙ ap (λ (n : ℕ). n + count_by is_mechs (flat_map session_lines sessions)) (session_begins_one s)
    ∙ ap (λ (n : ℕ). 1 + n) (sessions_begin_as_many sessions) ∙ omega arith

-- as many sessions are counted in a log of version 1 as it has
pub sessions_are_counted : (sessions : List RecordedSession)
    → (counts_of (header_one ∷ flat_map session_lines sessions)).sessions ≡ length sessions
sessions_are_counted sessions = sessions_begin_as_many sessions
