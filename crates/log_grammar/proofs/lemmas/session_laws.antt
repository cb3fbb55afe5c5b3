-- Main lemma, `clean_logs_are_those_of_sessions` (OfSessions): a log of version 1 is clean if and only if it consists of finished sessions
-- that meet the demands, and in which the tokens have legal histories.
-- Cited by the law of that name in src/version_one/by_sessions.rt. Read in this order:
-- LaterLines: an induction over the lines of a session, from the last one back.
-- SessionCounts: as many sessions are counted in a log as it has.
-- MomentRanges: the moments of the replies in a log are in their range.
-- OfSessions: a clean log of version 1 consists of its sessions.
-- NumberedOfSessions: a clean log of version 2 does so too.
pub mod LaterLines
pub mod SessionCounts
pub mod MomentRanges
pub mod OfSessions
pub mod NumberedOfSessions
