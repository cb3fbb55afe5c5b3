-- A log of either version is clean if and only if it is made of whole sessions, and its fronts are what begins such a log.
use Rattle.std.proofs.Common.{inl, inr, ℕ, List, ◌++◌}
use Rattle.log_grammar.specs.Demands.{Accounts}
use Rattle.log_grammar.specs.laws.FitAccounts.{AllCanBeChallenged}
use Rattle.log_grammar.specs.Versions.{any_version, IsClean}
use Rattle.log_grammar.specs.CleanLogs.{IsCleanLog, BeginsCleanLog}
use Rattle.log_grammar.specs.laws.LogLaws.{BeginsClean}
use Rattle.log_grammar.specs.laws.WholeLogs.{CleanLogsAreOfWholeSessions, FrontsAreWhatBeginsWholeLogs}
use Rattle.log_grammar.proofs.lemmas.kinds.AllVersions.{any_version_can_be_shortened, any_version_clean_lines_stand, any_version_fronts_begin_clean}
use Rattle.log_grammar.proofs.lemmas.kinds.FaultLines.{front_iff_begins_clean}
use Rattle.log_grammar.proofs.lemmas.whole_sessions.InTurn.{clean_iff_in_turn}
use Rattle.log_grammar.proofs.lemmas.whole_sessions.UnderNumbers.{clean_iff_numbered}

module _ (accounts : Accounts) (fit : AllCanBeChallenged accounts) where
  -- a clean log is made of whole sessions
  pub clean_log_is_whole : (bytes : List ℕ) → IsClean accounts bytes → IsCleanLog accounts bytes
  clean_log_is_whole bytes (texts, cut, inl clean) = inl ((clean_iff_in_turn accounts bytes).0 (texts, cut, clean))
  clean_log_is_whole bytes (texts, cut, inr clean) =
      inr ((clean_iff_numbered accounts fit bytes).0 (texts, cut, clean))

  -- a log that is made of whole sessions is clean
  pub whole_log_is_clean : (bytes : List ℕ) → IsCleanLog accounts bytes → IsClean accounts bytes
  whole_log_is_clean bytes (inl whole) =
      let (texts, cut, clean) = (clean_iff_in_turn accounts bytes).1 whole in (texts, cut, inl clean)
  whole_log_is_clean bytes (inr whole) =
      let (texts, cut, clean) = (clean_iff_numbered accounts fit bytes).1 whole in (texts, cut, inr clean)

  -- what begins a clean log begins one that is made of whole sessions
  pub what_begins_clean_begins_whole : (bytes : List ℕ) → BeginsClean accounts bytes → BeginsCleanLog accounts bytes
  what_begins_clean_begins_whole bytes (more, clean) = (more, clean_log_is_whole (bytes ++ more) clean)

  -- what begins a log that is made of whole sessions begins a clean one
  pub what_begins_whole_begins_clean : (bytes : List ℕ) → BeginsCleanLog accounts bytes → BeginsClean accounts bytes
  what_begins_whole_begins_clean bytes (more, whole) = (more, whole_log_is_clean (bytes ++ more) whole)

-- the law: if a challenge can be written for each name, a log is clean if and only if it is made of whole sessions
pub clean_logs_are_of_whole_sessions : CleanLogsAreOfWholeSessions
clean_logs_are_of_whole_sessions accounts fit bytes = (clean_log_is_whole accounts fit bytes, whole_log_is_clean accounts fit bytes)

-- the law: if a challenge can be written for each name, whole lines are a front if and only if they begin a log of whole sessions
pub fronts_are_what_begins_whole_logs : FrontsAreWhatBeginsWholeLogs
fronts_are_what_begins_whole_logs accounts fit bytes texts cut =
    let law = front_iff_begins_clean (any_version accounts) (any_version_can_be_shortened accounts) (any_version_clean_lines_stand accounts)
    (any_version_fronts_begin_clean accounts fit) bytes texts cut in (
      λ front. what_begins_clean_begins_whole accounts fit bytes (law.0 front),
      λ begins. law.1 (what_begins_whole_begins_clean accounts fit bytes begins),
    )
