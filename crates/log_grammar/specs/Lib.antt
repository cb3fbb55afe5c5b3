-- What a log is. A reader of the audit's promise has to believe `CleanLogs` and `Faults`, and of the other files of this folder what they
-- name (docs/editions has just that). `Places` to `Versions` have the grammar once more, in which a log may break off after any line, and
-- `state_machine` has it line by line; the laws in `laws` say that these agree.
pub mod Words
pub mod Payload
pub mod Lines
pub mod Demands
pub mod Histories
pub mod WholeSessions
pub mod Numbered
pub mod NumberedLines
pub mod CleanLogs
pub mod Why
pub mod Faults
pub mod Places
pub mod Sessions
pub mod Begins
pub mod LogKinds
pub mod VersionOne
pub mod NumberedClasses
pub mod VersionTwo
pub mod Versions
pub mod Books
pub mod Counts
pub mod Upgrades
pub mod state_machine
pub mod laws
