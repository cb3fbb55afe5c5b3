-- Main lemma, `line_after_halt_is_at_fault` (Edges): any line of a log after `S HALT` is out of order, and is the line at fault.
-- Cited by the law `halt_is_last` of src/version_one/examples.rt. Read in this order:
-- SmallLines: where the first lines of a log lead; login_laws cites it.
-- Edges: logs that end with a halt, bytes without an LF, and lines that are too long.
-- TwoCodes: two codes in a row with another reply than the one due.
pub mod SmallLines
pub mod Edges
pub mod TwoCodes
