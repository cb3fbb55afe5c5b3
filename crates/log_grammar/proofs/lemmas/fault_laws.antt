-- Main lemmas, `fault_lines_are_of_whole_logs` and `reasons_are_what_may_stand` (Faults): if a challenge can be written for each name, the
-- line at fault is the first with which the lines begin no log of whole sessions, and its reason follows from what may stand in its place.
-- Cited by the laws of these names in src/logs.rt, and by the audits of `sasl_log`. Read in this order:
-- DueLines: what is due at a place. WhatStands: which lines begin a clean log. InTurn: version 1. UnderNumbers: version 2.
-- Reasons: both versions. Faults: the laws.
pub mod DueLines
pub mod WhatStands
pub mod InTurn
pub mod UnderNumbers
pub mod Reasons
pub mod Faults
