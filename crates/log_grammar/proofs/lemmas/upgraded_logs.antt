-- Main lemma, `upgraded_logs_are_clean` (SameClean): a log of version 1 whose lines can be numbered is clean if and only if the upgraded
-- log is.
-- Cited by the law of that name in src/upgraded/logs.rt, by login_laws, and by the upgrades of `sasl_log`. Read in this order:
-- WithNumbers: the lines of a log with numbers, and the place of each number.
-- GoesOnAlike: both logs go on with the lines of the old one.
-- Texts: the texts of the upgraded log are read as the old lines with their numbers.
-- SameClean: both logs are clean, or neither is.
-- SameFault: one line is at fault in both, for one reason.
pub mod WithNumbers
pub mod GoesOnAlike
pub mod Texts
pub mod SameClean
pub mod SameFault
