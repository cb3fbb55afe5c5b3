-- Main lemma, `run_comes_past_line` (LinesInTurn): a run that works on one more line of its input has come one line further.
-- Cited by `Talk::send_codes` and `answer_lines` of `commands`. Read in this order:
-- Results: facts about a result, combined or passed on.
-- HeldFaults: the fault of a book that can't be held or read.
-- InputLines: the line that is taken from an input is the first of its lines.
-- LinesInTurn: a walk through all lines of an input.
pub mod HeldFaults
pub mod InputLines
pub mod LinesInTurn
pub mod Results
