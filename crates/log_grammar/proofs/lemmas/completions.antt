-- Main lemmas, `version_one_fronts_begin_clean` (EachPlace) and `version_two_fronts_begin_clean` (NumberedFronts): if a challenge can be
-- written for each name, each front begins a clean log.
-- Cited by kinds and reason_laws, and by the law `numbered_fronts_begin_clean` of src/version_two/logs.rt. Read in this order:
-- Verdicts: some verdict is due to each login, and the line that tells it can be written.
-- Closings: from each place some lines close the session, unless a code waits for its reply.
-- EachPlace: a front of version 1 is completed, place by place.
-- OpenSessions: the open sessions of version 2 are closed one by one, or a halt ends them all.
-- NumberedFronts: a front of version 2 is completed, whatever its last line is.
pub mod Verdicts
pub mod EachPlace
pub mod Closings
pub mod OpenSessions
pub mod NumberedFronts
