-- Whole lines stand, so that a log may begin with them, if and only if they begin a log of whole sessions.
use Rattle.std.proofs.Common.{ℕ, List}
use Rattle.std.specs.List.{AllByRecursion}
use Rattle.scram_text.specs.SplitLines.{LacksLf, ended_by_lf}
use Rattle.scram_text.proofs.lemmas.SplitLines.{whole_lines_are_split}
use Rattle.log_grammar.specs.Demands.{Accounts}
use Rattle.log_grammar.specs.laws.FitAccounts.{AllCanBeChallenged}
use Rattle.log_grammar.specs.Versions.{any_version}
use Rattle.log_grammar.specs.CleanLogs.{BeginsCleanLog}
use Rattle.log_grammar.proofs.lemmas.kinds.AllVersions.{any_version_fronts_begin_clean}
use Rattle.log_grammar.proofs.lemmas.kinds.Fronts.{front_lines_stand, standing_lines_are_front}
use Rattle.log_grammar.proofs.lemmas.whole_sessions.BothVersions.{what_begins_clean_begins_whole, fronts_are_what_begins_whole_logs}

module _ (accounts : Accounts) (fit : AllCanBeChallenged accounts) (texts : List (List ℕ)) (lack : AllByRecursion LacksLf texts) where
  -- lines that stand begin a log of whole sessions
  pub standing_lines_begin : (any_version accounts).MayBegin texts → BeginsCleanLog accounts (ended_by_lf texts)
  standing_lines_begin stands =
      what_begins_clean_begins_whole accounts fit (ended_by_lf texts)
      (any_version_fronts_begin_clean accounts fit (ended_by_lf texts) (standing_lines_are_front (any_version accounts) texts lack stands))

  -- lines that begin a log of whole sessions stand
  pub beginning_lines_stand : BeginsCleanLog accounts (ended_by_lf texts) → (any_version accounts).MayBegin texts
  beginning_lines_stand begins =
      let cut = whole_lines_are_split texts lack in
      front_lines_stand (any_version accounts) (ended_by_lf texts) texts cut
      ((fronts_are_what_begins_whole_logs accounts fit (ended_by_lf texts) texts cut).1 begins)
