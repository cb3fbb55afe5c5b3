-- The texts of an upgraded log, and that they are read as the numbered lines of the old one.
use Rattle.std.proofs.Common.{◌≡◌, inl, inr, ℕ, ◌+◌, ◌≤◌, List, [], ◌∷◌, ◌++◌, length, map, refl, length-append, sym, ◌∙◌, ap, subst, arith}
use Rattle.std.specs.Prelude.{if◌then◌else◌, decimal, flat_map}
use Rattle.std.specs.List.{AllByRecursion, AllZip}
use Rattle.std.proofs.lemmas.Bool.{cases_Bool}
use Rattle.std.specs.Str.{byte}
use Rattle.scram_text.specs.SplitLines.{LacksLf}
use Rattle.scram_text.proofs.lemmas.ListEnds.{same_head_and_tail, same_cons, appended_lists_keep_all}
use Rattle.account_book.specs.AccountAttempt.{AccountAttempt}
use Rattle.log_grammar.specs.Lines.{LogLine, header_one, header_two, log_line_text, IsLogLine, IsLogLineWritable}
use Rattle.log_grammar.specs.Places.{Place}
use Rattle.log_grammar.specs.Demands.{Demands}
use Rattle.log_grammar.specs.Sessions.{RecordedSession, session_lines, session}
use Rattle.log_grammar.specs.Begins.{IsLogUpTo}
use Rattle.log_grammar.specs.Counts.{counts_of}
use Rattle.log_grammar.specs.Numbered.{Numbered, numbered, is_end}
use Rattle.log_grammar.specs.NumberedLines.{max_session_number, IsSessionNumber, IsNoFirstLine, numbered_text, IsNumberedLine}
use Rattle.log_grammar.specs.Upgrades.{with_numbers}
use Rattle.log_grammar.specs.laws.UpgradedLogs.{UpgradedLogsHaveTheSameCounts, CanBeUpgraded}
use Rattle.log_grammar.proofs.lemmas.session_laws.LaterLines.{IsInnerLine, HoldsFromTheLast, later_lines_hold}
use Rattle.log_grammar.proofs.lemmas.lines.LackLf.{number_lacks_lf, log_line_lacks_lf}
use Rattle.log_grammar.proofs.lemmas.lines.ReadBack.{each_text_is_at_most_one_log_line}
use Rattle.log_grammar.proofs.lemmas.lines.NumberedReadBack.{numbered_line_is_writable, numbered_text_shows_number}
use Rattle.log_grammar.proofs.lemmas.many_sessions.LinesOfNumber.{equal_parts_are_same_numbered}
use Rattle.log_grammar.proofs.lemmas.ListEnds.{front_keeps_all}
use Rattle.log_grammar.proofs.lemmas.lines.TextBytes.{lacks_lf-append}
use Rattle.log_grammar.proofs.lemmas.lines.Words.{after_space, after_space-word, number_lacks_space}

-- each of these lines may have a number
abbrev AllMayHaveNumber : List LogLine → Type 0
AllMayHaveNumber lines = AllByRecursion IsNoFirstLine lines

-- an inner line of a session may have a number
inner_line_may_have_number : (line : LogLine) → IsInnerLine line → IsNoFirstLine line
inner_line_may_have_number header_one inner = inner
inner_line_may_have_number header_two inner = inner
inner_line_may_have_number line inner = tt

-- each line of a session after its first may have a number
later_lines_may_have_numbers : HoldsFromTheLast (λ lines place told. AllMayHaveNumber lines)
later_lines_may_have_numbers = record {
  no_line = λ place unfinished is. tt;
  last_end = (tt, tt);
  last_halt = (tt, tt);
  inner_line = λ line inner lines place told have. (inner_line_may_have_number line inner, have);
  reply = λ account is sent moment reply lines place told have. (tt, have);
}

-- each line of a session may have a number
session_may_have_numbers : (s : RecordedSession) → AllMayHaveNumber (session_lines s)
session_may_have_numbers (session names l) =
    (tt, later_lines_hold (λ lines place told. AllMayHaveNumber lines) later_lines_may_have_numbers l)

-- each line of some sessions may have a number
sessions_may_have_numbers : (sessions : List RecordedSession) → AllMayHaveNumber (flat_map session_lines sessions)
sessions_may_have_numbers [] = tt
sessions_may_have_numbers (s ∷ sessions) =
    appended_lists_keep_all IsNoFirstLine (session_lines s) (flat_map session_lines sessions) (session_may_have_numbers s)
    (sessions_may_have_numbers sessions)

-- each line of a log of version 1 after its first may have a number: none is a first line again
pub log_may_have_numbers : (d : Demands) (lines : List LogLine) (place : Place) (told : List AccountAttempt)
    → IsLogUpTo d (header_one ∷ lines) place told → AllMayHaveNumber lines
log_may_have_numbers d lines place told s =
    subst AllMayHaveNumber (sym (same_head_and_tail header_one header_one lines (flat_map session_lines s.sessions) s.lines).1)
    (sessions_may_have_numbers s.sessions)

-- the number of the next line is this one, or one more
pub next_number_stays_or_rises : (n : ℕ) (line : LogLine)
    → (n ≤ (if is_end line then n + 1 else n)) × ((if is_end line then n + 1 else n) ≤ n + 1)
next_number_stays_or_rises n line = elim (cases_Bool (is_end line)) [
  | inl end ↦ rw end (omega arith, omega arith)
  | inr other ↦ rw other (omega arith, omega arith)
]

-- numbers that are given to so many lines are in their range
abbrev FitNumbers : ℕ → List LogLine → Type 0
FitNumbers n lines = (1 ≤ n) × (n + length lines ≤ max_session_number)

-- if the numbers from this one on fit the lines, it is a session's number
first_number_fits : (n : ℕ) (lines : List LogLine) → FitNumbers n lines → IsSessionNumber n
first_number_fits n lines few = (few.0, omega (arith, few.1))

-- if the numbers from this one on fit the lines, those from the next line's on fit the lines after the first
rest_fits_numbers : (n : ℕ) (line : LogLine) (lines : List LogLine) → FitNumbers n (line ∷ lines)
    → FitNumbers (if is_end line then n + 1 else n) lines
rest_fits_numbers n line lines few =
    let next = next_number_stays_or_rises n line in (omega (arith, few.0, next.0), omega (arith, few.1, next.1))

-- the numbers from 1 on fit lines that can be upgraded
lines_fit_from_one : (lines : List LogLine) → CanBeUpgraded lines → FitNumbers 1 lines
lines_fit_from_one lines can = (omega arith, omega (arith, can.few.1))

-- the texts of lines with numbers that fit them are read as these numbered lines, if each can be written and none is a first line
numbered_texts_are_read : (n : ℕ) (lines : List LogLine) → FitNumbers n lines → AllByRecursion IsLogLineWritable lines
    → AllByRecursion IsNoFirstLine lines → AllZip IsNumberedLine (map numbered_text (with_numbers n lines)) (with_numbers n lines)
numbered_texts_are_read n [] few each have = tt
numbered_texts_are_read n (line ∷ lines) few each have = (
  numbered_line_is_writable (numbered n line) (first_number_fits n (line ∷ lines) few) have.0 each.0,
  numbered_texts_are_read (if is_end line then n + 1 else n) lines (rest_fits_numbers n line lines few) each.1 have.1,
)

-- the texts after the first of an upgraded log are those of its numbered lines, if the old ones can be numbered
-- and none is a first line
pub upgraded_texts_are_read : (lines : List LogLine) → CanBeUpgraded lines → AllByRecursion IsNoFirstLine lines
    → AllZip IsNumberedLine (map numbered_text (with_numbers 1 lines)) (with_numbers 1 lines)
upgraded_texts_are_read lines can have = numbered_texts_are_read 1 lines (lines_fit_from_one lines can) can.each have

-- the texts of lines with numbers that fit them have no LF, if each line can be written
numbered_texts_lack_lf : (n : ℕ) (lines : List LogLine) → FitNumbers n lines → AllByRecursion IsLogLineWritable lines
    → AllByRecursion LacksLf (map numbered_text (with_numbers n lines))
numbered_texts_lack_lf n [] few each = tt
numbered_texts_lack_lf n (line ∷ lines) few each = (
  lacks_lf-append (decimal n) (byte " " ∷ log_line_text line) (number_lacks_lf n (omega (arith, few.1)))
      (log_line_lacks_lf line each.0.ranges),
  numbered_texts_lack_lf (if is_end line then n + 1 else n) lines (rest_fits_numbers n line lines few) each.1,
)

-- no text of an upgraded log has an LF in it, if the old lines can be numbered
pub upgraded_texts_lack_lf : (lines : List LogLine) → CanBeUpgraded lines
    → AllByRecursion LacksLf (log_line_text header_two ∷ map numbered_text (with_numbers 1 lines))
upgraded_texts_lack_lf lines can = (refl, numbered_texts_lack_lf 1 lines (lines_fit_from_one lines can) can.each)

-- a text of an upgraded log is read as no other than its number and its line
pub upgraded_text_has_one_line : (n : ℕ) (line : LogLine) (x : Numbered LogLine) → IsSessionNumber n → IsLogLineWritable line
    → IsNumberedLine (numbered_text (numbered n line)) x → x ≡ numbered n line
upgraded_text_has_one_line n line x number is read =
    let same_number = numbered_text_shows_number n (log_line_text line) x number read in
    let word = number_lacks_space n (omega (arith, number.1)) in
    let also = number_lacks_space x.number (omega (arith, read.number.1)) in
    let same : log_line_text line ≡ log_line_text x.value = sym
    (after_space-word (decimal n) (log_line_text line) word) ∙ ap after_space read.spelled ∙ after_space-word (decimal x.number)
    (log_line_text x.value) also in
    let value = each_text_is_at_most_one_log_line (log_line_text line) x.value line
    (subst (λ (t : List ℕ). IsLogLine t x.value) (sym same) read.line) is in
    equal_parts_are_same_numbered x.number n x.value line same_number value

-- the texts of an upgraded log are read as no other than their numbers and their lines
numbered_texts_have_one_reading : (n : ℕ) (lines : List LogLine) (log : List (Numbered LogLine)) → FitNumbers n lines
    → AllByRecursion IsLogLineWritable lines → AllZip IsNumberedLine (map numbered_text (with_numbers n lines)) log
    → log ≡ with_numbers n lines
numbered_texts_have_one_reading n [] [] few each read = refl
numbered_texts_have_one_reading n [] (x ∷ log) few each read = absurd read
numbered_texts_have_one_reading n (line ∷ lines) [] few each read = absurd read
numbered_texts_have_one_reading n (line ∷ lines) (x ∷ log) few each read =
    let next = if is_end line then n + 1 else n in
    same_cons x (numbered n line) log (with_numbers next lines) (upgraded_text_has_one_line n line x
    (first_number_fits n (line ∷ lines) few) each.0 read.0)
    (numbered_texts_have_one_reading next lines log (rest_fits_numbers n line lines few) each.1 read.1)

-- the texts after the first of an upgraded log are read as no lines but the old ones with their numbers
pub upgraded_texts_have_one_reading : (lines : List LogLine) (log : List (Numbered LogLine)) → CanBeUpgraded lines
    → AllZip IsNumberedLine (map numbered_text (with_numbers 1 lines)) log → log ≡ with_numbers 1 lines
upgraded_texts_have_one_reading lines log can read =
    numbered_texts_have_one_reading 1 lines log (lines_fit_from_one lines can) can.each read

-- the first of lines that can be numbered can be
pub first_lines_can_be_numbered : (before after : List LogLine) → CanBeUpgraded (before ++ after) → CanBeUpgraded before
first_lines_can_be_numbered before after can = record {
  each = front_keeps_all IsLogLineWritable before after can.each;
  few = (omega arith, omega (arith, can.few.1, length-append before after));
}

-- lines that are numbered are, without their numbers, the old lines
values_are_old_lines : (n : ℕ) (lines : List LogLine) → map (λ (x : Numbered LogLine). x.value) (with_numbers n lines) ≡ lines
values_are_old_lines n [] = refl
values_are_old_lines n (line ∷ lines) =
    ap (λ (ls : List LogLine). line ∷ ls) (values_are_old_lines (if is_end line then n + 1 else n) lines)

-- the law: an upgraded log has the counts of the old one, since its lines without their numbers are the old ones
pub upgraded_logs_have_the_same_counts : UpgradedLogsHaveTheSameCounts
upgraded_logs_have_the_same_counts lines = ap counts_of (values_are_old_lines 1 lines)
