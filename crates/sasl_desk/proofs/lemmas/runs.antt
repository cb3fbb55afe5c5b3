-- Main lemma, `turn_answers_desk_call` (Calls): a desk has answered a call when its session's turn was taken and its lines were written.
-- Cited by `Desk::hear`; laws of src/laws.rt cite Spent, BooksAfterReplies, Records, Logs, AcceptedLogins and Stores. Read in this order:
-- HeldBooks: what the store holds. Spent: what was spent stays spent. BooksAfterReplies: the book after the replies of a run.
-- IsDeskAfter: what a desk stands for after a call. Calls: it has answered the call. RestingRuns: nothing is left to be said.
-- Records: the log records what clients did. Acceptances: lines up to an acceptance. AnswerShapes: which answers may stand at a place.
-- OneRecord, OneAnswer: one record and one answer to an event. SameRequests: equal requests get equal lines up to the outcome.
-- Unlocks: an unlocked token or a new account keeps what is spent. Logs: the log is a front. PathLines: its lines are a path.
-- AcceptedLogins: `S OK` answers exactly the valid logins. Changes: a book that a run leaves keeps what is spent.
-- Passes: the counters of PASS lines. Stores: what the store holds, wherever a run stops. Answered: several calls are answered.
-- Served: a session is served to its end.
pub mod HeldBooks
pub mod Spent
pub mod BooksAfterReplies
pub mod IsDeskAfter
pub mod Calls
pub mod RestingRuns
pub mod Records
pub mod Acceptances
pub mod AnswerShapes
pub mod OneRecord
pub mod OneAnswer
pub mod SameRequests
pub mod Unlocks
pub mod Logs
pub mod PathLines
pub mod AcceptedLogins
pub mod Changes
pub mod Passes
pub mod Stores
pub mod Answered
pub mod Served
