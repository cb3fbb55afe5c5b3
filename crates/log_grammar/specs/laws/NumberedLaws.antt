-- The laws of logs of version 2: which lines continue such a log; that it has one reading; that its first lines are such a log;
-- that the place of a session depends only on its own lines; how many sessions are open; and which classes of lines are due for
-- each number.
use Rattle.std.specs.Prelude.{ℕ, ◌≡◌, ◌≢◌, ◌≤◌, ◌+◌, ◌↔◌, ◌⊎◌, false, List, [], ◌∷◌, ◌++◌}
use Rattle.account_book.specs.AccountAttempt.{AccountAttempt}
use Rattle.log_grammar.specs.Lines.{LogLine, said, busy}
use Rattle.log_grammar.specs.Places.{Place, is_closed}
use Rattle.log_grammar.specs.Demands.{Accounts, Demands, demands}
use Rattle.log_grammar.specs.state_machine.Steps.{told_at}
use Rattle.log_grammar.specs.Why.{LineClass}
use Rattle.log_grammar.specs.Numbered.{Numbered, numbered, of_number, given_in, closed_in, IsNumberedLogUpTo}
use Rattle.log_grammar.specs.NumberedClasses.{IsNumberClassDue}
use Rattle.log_grammar.specs.state_machine.NumberedDueClasses.{IsNumberDueAt}
use Rattle.log_grammar.specs.state_machine.OpenNumbers.{open_up_to}
use Rattle.log_grammar.specs.state_machine.NumberedSteps.{put, IsNumberedTransition}

-- if a number may have a line, the log continues with it, and no other number's place changes
abbrev pub GoesOnByANumberedLine : Type 0
GoesOnByANumberedLine = (limit : ℕ) (accounts : Accounts) (log : List (Numbered LogLine)) (places : ℕ → Place) (told : List AccountAttempt)
    (n : ℕ) (line : LogLine) (to : Place) → IsNumberedLogUpTo limit (demands accounts) log places told
    → IsNumberedTransition limit (demands accounts) log places told n line to
    → IsNumberedLogUpTo limit (demands accounts) (log ++ numbered n line ∷ []) (put n to places) (told ++ told_at (places n) line)

-- what a log was before its last line, which has this number: a log that the line may follow, in which only the place of this
-- number was different
pub record HasLastNumberedTransition (limit : ℕ) (d : Demands) (log : List (Numbered LogLine)) (n : ℕ) (line : LogLine) (places : ℕ → Place)
    (all : List AccountAttempt) : Type 0 where
  pub before : ℕ → Place
  pub told : List AccountAttempt
  pub spells : IsNumberedLogUpTo limit d log before told
  pub goes : IsNumberedTransition limit d log before told n line (places n)
  pub others : (m : ℕ) → (n ≡ m → ⊥) → places m ≡ before m
  pub told_are : all ≡ told ++ told_at (before n) line

-- a log continues in no other way: the lines before its last one are a log, after which the number of the last line may have that line
abbrev pub GoesOnByNoOtherNumberedLine : Type 0
GoesOnByNoOtherNumberedLine = (limit : ℕ) (accounts : Accounts) (log : List (Numbered LogLine)) (n : ℕ) (line : LogLine)
    (places : ℕ → Place) (all : List AccountAttempt) → IsNumberedLogUpTo limit (demands accounts) (log ++ numbered n line ∷ []) places all
    → HasLastNumberedTransition limit (demands accounts) log n line places all

-- the place of each number, and the replies to all codes, follow from the lines
abbrev pub HasOneNumberedReading : Type 0
HasOneNumberedReading = (limit : ℕ) (accounts : Accounts) (log : List (Numbered LogLine)) (places other_places : ℕ → Place)
    (told other_told : List AccountAttempt)
    → IsNumberedLogUpTo limit (demands accounts) log places told → IsNumberedLogUpTo limit (demands accounts) log other_places other_told
    → ((n : ℕ) → places n ≡ other_places n) × (told ≡ other_told)

-- a log with one more line is a log if and only if this number may have the line. Then this number is at the place to which the
-- line leads, each other is where it was, and the replies to codes are those before, and the line if it is one.
abbrev pub NumberedLogsGoOnExactlySo : Type 0
NumberedLogsGoOnExactlySo = (limit : ℕ) (accounts : Accounts) (log : List (Numbered LogLine)) (places : ℕ → Place)
    (told : List AccountAttempt) (n : ℕ) (line : LogLine) (next : ℕ → Place) (all : List AccountAttempt)
    → IsNumberedLogUpTo limit (demands accounts) log places told
    → IsNumberedLogUpTo limit (demands accounts) (log ++ numbered n line ∷ []) next all
    ↔ (IsNumberedTransition limit (demands accounts) log places told n line (next n) × ((m : ℕ) → m ≢ n → next m ≡ places m)
    × (all ≡ told ++ told_at (places n) line))

-- the first lines of such a log are such a log
abbrev pub FirstNumberedLinesAreLogs : Type 0
FirstNumberedLinesAreLogs = (limit : ℕ) (accounts : Accounts) (log more : List (Numbered LogLine)) (places : ℕ → Place)
    (told : List AccountAttempt)
    → IsNumberedLogUpTo limit (demands accounts) (log ++ more) places told
    → (before : ℕ → Place) × (earlier : List AccountAttempt) × IsNumberedLogUpTo limit (demands accounts) log before earlier

-- the place of a session depends only on its own lines, whatever other sessions there are, in any log and under any number
abbrev pub SessionsStandAlone : Type 0
SessionsStandAlone = (limit : ℕ) (accounts : Accounts) (log other : List (Numbered LogLine)) (places other_places : ℕ → Place)
    (told other_told : List AccountAttempt)
    → IsNumberedLogUpTo limit (demands accounts) log places told → IsNumberedLogUpTo limit (demands accounts) other other_places other_told
    → (n m : ℕ) → of_number n log ≡ of_number m other → places n ≡ other_places m

-- the open numbers and the closed ones are together all that were given, from 1 on
abbrev pub OpenSessionsAreCounted : Type 0
OpenSessionsAreCounted = (limit : ℕ) (accounts : Accounts) (log : List (Numbered LogLine)) (places : ℕ → Place) (told : List AccountAttempt)
    → IsNumberedLogUpTo limit (demands accounts) log places told
    → (open_up_to (given_in log) places + closed_in log ≡ given_in log)
    × ((n : ℕ) → is_closed (places n) ≡ false → (1 ≤ n) × (n ≤ given_in log))

-- at most `limit` are open, or one more if BUSY is the last line: the one that it turns away
abbrev pub FewSessionsAreOpen : Type 0
FewSessionsAreOpen = (limit : ℕ) (accounts : Accounts) (log : List (Numbered LogLine)) (places : ℕ → Place) (told : List AccountAttempt)
    → IsNumberedLogUpTo limit (demands accounts) log places told
    → (open_up_to (given_in log) places ≤ limit)
    ⊎ ((before : List (Numbered LogLine)) × (n : ℕ) × (log ≡ before ++ numbered n (said busy) ∷ [])
    × (open_up_to (given_in log) places ≡ limit + 1))

-- the classes due for a number after a log's lines are those of its place for which there is room and which may follow the last line
abbrev pub NumberClassesFollowThePlace : Type 0
NumberClassesFollowThePlace = (limit : ℕ) (accounts : Accounts) (log : List (Numbered LogLine)) (places : ℕ → Place)
    (told : List AccountAttempt)
    (n : ℕ) (class : LineClass) → IsNumberedLogUpTo limit (demands accounts) log places told
    → IsNumberClassDue limit log n class ↔ IsNumberDueAt limit log (places n) n class
