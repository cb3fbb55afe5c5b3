-- What follows from the definitions in the folder above, and that the state machine agrees with the grammar: each law is promised
-- by a function that does nothing.
pub mod FitAccounts
pub mod LastLines
pub mod LineLaws
pub mod KindLaws
pub mod LogLaws
pub mod Completions
pub mod Logins
pub mod Outcomes
pub mod Replies
pub mod BySessions
pub mod Reasons
pub mod Examples
pub mod NumberedLaws
pub mod NumberedLineLaws
pub mod NumberedLogLaws
pub mod NumberedBySessions
pub mod NumberedReasons
pub mod NumberedReplies
pub mod NumberedLogins
pub mod UpgradedLogs
pub mod WholeLogs
