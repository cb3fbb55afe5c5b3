-- Main lemmas, `clean_logs_are_of_whole_sessions` and `fronts_are_what_begins_whole_logs` (BothVersions): if a challenge can be written for
-- each name, a log is clean if and only if it is made of whole sessions, and whole lines are a front if and only if they begin such a log.
-- Cited by the laws of these names in src/logs.rt, by fault_laws, and by the audits of `sasl_log`. Read in this order:
-- FinishedTrees: a tree that has ended is a whole session. WholeTrees: a whole session has a tree. InTurn: version 1.
-- ReplyCounts: how many replies a number has. BegunNumbers: the lines of a number up to a halt. UnderNumbers: version 2.
-- BothVersions: the laws.
pub mod FinishedTrees
pub mod WholeTrees
pub mod InTurn
pub mod ReplyCounts
pub mod BegunNumbers
pub mod UnderNumbers
pub mod BothVersions
