-- Main lemmas, `each_log_of_any_version_is_judged` and `log_has_one_judgement` (OneAnswer): each log is clean, or exactly one line of it is
-- at fault, for exactly one reason.
-- Cited by laws of src/judgements.rt and src/logs.rt, by upgraded_logs, and by the audits of `sasl_log`. Read in this order:
-- Sound: what a kind of log needs for that. Fronts: the first lines of a front are a front. AtFault: a text that can't follow is at fault.
-- OneFault: one line at most, for one reason at most. Judged: a log is clean, or some line is at fault.
-- FaultLines: that line is the first that begins no clean log. Either: two kinds with different first lines are one kind.
-- OneWhy: a line is wrong for one reason at most. VersionOne, VersionTwo: each version is a sound kind.
-- FirstLinesDiffer: no log is of both versions. AllVersions: both together are a sound kind. OneAnswer: each log has one answer.
-- Completed: each front is completed to a clean log. ShownByLines: how the lines of version 1 show the answer.
pub mod Sound
pub mod Fronts
pub mod AtFault
pub mod OneFault
pub mod Judged
pub mod FaultLines
pub mod Either
pub mod OneWhy
pub mod VersionOne
pub mod VersionTwo
pub mod AllVersions
pub mod OneAnswer
pub mod Completed
pub mod ShownByLines
pub mod FirstLinesDiffer
