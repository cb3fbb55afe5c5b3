-- Clean logs of version 2 in terms of the sessions that they are made of.
use Rattle.std.specs.Prelude.{ℕ, ◌≡◌, ◌⊎◌, ◌↔◌, List, [], ◌∷◌, map}
use Rattle.std.specs.List.{AllByRecursion}
use Rattle.std.specs.declared.option.Option.{Option}
use Rattle.std.specs.declared.option.Option.TheVariants.{None, Some}
use Rattle.scram_text.specs.SplitLines.{ended_by_lf}
use Rattle.account_book.specs.AccountAttempt.{AccountAttempt}
use Rattle.log_grammar.specs.Lines.{LogLine, header_two, said, ended, halt, log_line_text}
use Rattle.log_grammar.specs.laws.LastLines.{EndsWith}
use Rattle.log_grammar.specs.Demands.{Accounts, demands}
use Rattle.log_grammar.specs.Histories.{IsHistory}
use Rattle.log_grammar.specs.Numbered.{Numbered, Visit, visit_lines, AreOfSessions}
use Rattle.log_grammar.specs.NumberedLines.{numbered_text, IsNumberedLineWritable}
use Rattle.log_grammar.specs.LogKinds.{IsCleanOf}
use Rattle.log_grammar.specs.VersionTwo.{version_two}

-- a number was not given, or is closed: `E` is its last line
abbrev pub IsClosedVisit : Option Visit → Type 0
IsClosedVisit None = Unit {0}
IsClosedVisit (Some visit) = EndsWith (visit_lines (Some visit)) (ended ∷ [])

-- a number halted: `S HALT` is its last line
abbrev pub IsHaltedVisit : Option Visit → Type 0
IsHaltedVisit None = ⊥
IsHaltedVisit (Some visit) = EndsWith (visit_lines (Some visit)) (said halt ∷ [])

-- the bytes are a log of version 2 with these lines
pub record IsNumberedLogOf (limit : ℕ) (accounts : Accounts) (bytes : List ℕ) (log : List (Numbered LogLine)) : Type 0 where
  -- the bytes are `SCRAMLOG 2` and the lines, each after its number and ended by an LF
  pub spelled : bytes ≡ ended_by_lf (log_line_text header_two ∷ map numbered_text log)
  pub written : AllByRecursion IsNumberedLineWritable log
  -- the lines are those of sessions, and either all are closed or one halted
  pub visit : ℕ → Option Visit
  pub numbered_told : List (Numbered AccountAttempt)
  pub sessions : AreOfSessions limit (demands accounts) log visit numbered_told
  pub finished : ((n : ℕ) → IsClosedVisit (visit n)) ⊎ ((n : ℕ) × IsHaltedVisit (visit n))
  -- the replies to each account under all numbers, in the order of the log, are a legal history of its token
  pub histories : (account : List ℕ) → IsHistory (accounts.token account) account (map (λ t. t.value) numbered_told)

-- a log of version 2 is clean if and only if it is that of some sessions
abbrev pub CleanNumberedLogsAreThoseOfSessions : Type 0
CleanNumberedLogsAreThoseOfSessions = (limit : ℕ) (accounts : Accounts) (bytes : List ℕ)
    → IsCleanOf (version_two limit accounts) bytes ↔ ((log : List (Numbered LogLine)) × IsNumberedLogOf limit accounts bytes log)
