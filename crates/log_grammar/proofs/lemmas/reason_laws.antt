-- Main lemma, `what_is_due_may_stand` (Mended): if a challenge can be written for each name, what a reason names as due may replace the
-- line at fault in a log of version 1.
-- Cited by the law of that name in src/version_one/reasons.rt. Read in this order:
-- Mended: some line that says what is due may stand in the place of the line at fault.
-- DueLines: so may each such line, except a challenge.
-- NumberedMended: both, under a number of version 2.
-- CounterRanges: the reply that is due can be written.
pub mod Mended
pub mod DueLines
pub mod NumberedMended
pub mod CounterRanges
