-- Main lemma, `no_counter_is_used_twice` (UsedCounters): the counters that an account's codes use in a log rise, so that none is used
-- twice.
-- Cited by the law of that name in src/version_one/replies.rt. Read in this order:
-- Passed: PASS follows the code of its counter, and a later PASS has a greater one.
-- UsedCounters: the counters that the codes of an account use.
-- NumberedPassed: both, in a log of version 2.
pub mod Passed
pub mod UsedCounters
pub mod NumberedPassed
