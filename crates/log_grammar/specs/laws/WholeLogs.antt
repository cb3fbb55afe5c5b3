-- That a log is clean, as the grammar has it line by line, if and only if it is made of whole sessions; and that its line at fault and the
-- reason are those that follow from what may stand.
use Rattle.std.specs.Prelude.{ℕ, ◌↔◌, List, []}
use Rattle.scram_text.specs.SplitLines.{IsSplit}
use Rattle.log_grammar.specs.Lines.{IsReplyInRange}
use Rattle.log_grammar.specs.Demands.{Accounts}
use Rattle.log_grammar.specs.laws.FitAccounts.{AllCanBeChallenged}
use Rattle.log_grammar.specs.Why.{Why, other_reply}
use Rattle.log_grammar.specs.Versions.{IsClean, IsLogFront, IsFaultLine, IsWhy}
use Rattle.log_grammar.specs.CleanLogs.{IsCleanLog, BeginsCleanLog}
use Rattle.log_grammar.specs.Faults.{IsFault, IsFaultFor}

-- if a challenge can be written for each name, a log is clean if and only if it is made of whole sessions
abbrev pub CleanLogsAreOfWholeSessions : Type 0
CleanLogsAreOfWholeSessions = (accounts : Accounts) → AllCanBeChallenged accounts
    → (bytes : List ℕ) → IsClean accounts bytes ↔ IsCleanLog accounts bytes

-- if a challenge can be written for each name, whole lines are a front if and only if they begin a log that is made of whole sessions
abbrev pub FrontsAreWhatBeginsWholeLogs : Type 0
FrontsAreWhatBeginsWholeLogs = (accounts : Accounts) → AllCanBeChallenged accounts
    → (bytes : List ℕ) (texts : List (List ℕ)) → IsSplit bytes texts [] → IsLogFront accounts bytes ↔ BeginsCleanLog accounts bytes

-- if the reason names the reply that is due, the reply's counter is in its range
abbrev pub HasReplyInRange : Why → Type 0
HasReplyInRange (other_reply moment due) = IsReplyInRange due
HasReplyInRange why = Unit {0}

-- if a challenge can be written for each name, the line at fault is the first with which the lines begin no log of whole sessions
abbrev pub FaultLinesAreOfWholeLogs : Type 0
FaultLinesAreOfWholeLogs = (accounts : Accounts) → AllCanBeChallenged accounts
    → (bytes : List ℕ) (k : ℕ) → IsFaultLine accounts bytes k ↔ IsFault accounts bytes k

-- if a challenge can be written for each name, the reason for a fault follows from what may stand in the place of the line. If a reply is
-- due, it has to be one that can be written, as for each token in its range.
abbrev pub ReasonsAreWhatMayStand : Type 0
ReasonsAreWhatMayStand = (accounts : Accounts) → AllCanBeChallenged accounts
    → (bytes : List ℕ) (k : ℕ) (why : Why)
    → (IsWhy accounts bytes k why × HasReplyInRange why) ↔ IsFaultFor accounts bytes k why
