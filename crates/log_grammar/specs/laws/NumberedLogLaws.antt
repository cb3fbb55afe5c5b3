-- The laws of a kind of log, of logs of version 2.
use Rattle.std.specs.Prelude.{ℕ}
use Rattle.log_grammar.specs.Demands.{Accounts}
use Rattle.log_grammar.specs.laws.FitAccounts.{AllCanBeChallenged}
use Rattle.log_grammar.specs.VersionTwo.{version_two}
use Rattle.log_grammar.specs.laws.KindLaws.{EachLogIsJudgedOf, HasOneFaultLineOf, EachFaultHasOneReasonOf, FrontsBeginWithFrontsOf}
use Rattle.log_grammar.specs.laws.KindLaws.{FrontsBeginCleanOf}

-- each list of bytes is a clean log of version 2, or has a line at fault and a reason for it
abbrev pub EachNumberedLogIsJudged : Type 0
EachNumberedLogIsJudged = (limit : ℕ) (accounts : Accounts) → EachLogIsJudgedOf (version_two limit accounts)

-- bytes have at most one fault line
abbrev pub HasOneNumberedFaultLine : Type 0
HasOneNumberedFaultLine = (limit : ℕ) (accounts : Accounts) → HasOneFaultLineOf (version_two limit accounts)

-- there is at most one reason for the fault of a line
abbrev pub EachNumberedFaultHasOneReason : Type 0
EachNumberedFaultHasOneReason = (limit : ℕ) (accounts : Accounts) → EachFaultHasOneReasonOf (version_two limit accounts)

-- the first lines of a front are a front
abbrev pub NumberedFrontsBeginWithFronts : Type 0
NumberedFrontsBeginWithFronts = (limit : ℕ) (accounts : Accounts) → FrontsBeginWithFrontsOf (version_two limit accounts)

-- each front begins a clean log, if a challenge can be written for each account and decoy
abbrev pub NumberedFrontsBeginClean : Type 0
NumberedFrontsBeginClean = (limit : ℕ) (accounts : Accounts) → AllCanBeChallenged accounts → FrontsBeginCleanOf (version_two limit accounts)
