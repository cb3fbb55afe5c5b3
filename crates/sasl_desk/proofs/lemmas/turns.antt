-- Main lemmas, `session_turn_is_taken`, `reply_turn_is_taken` and `halt_turn_is_taken` (Taken): each turn of a session is one that a run
-- may take.
-- Cited by runs and halls. Read in this order:
-- DueRecords: the record of an event may stand if and only if it is due. NotDue: lines that are not due where a session stands.
-- DueAnswers: the answers of a session are those that are due. HeardLines: the record of a line is that of its event.
-- AnswerLines: what holds of each line of an answer. Paths: the lines of a turn are a path of the grammar. Taken: a turn is taken.
-- Writable: its lines can be written. TurnBytes: its bytes. Keepers: what a keeper did with a code.
-- Saves: a turn has one save for each line that stands for one.
pub mod DueRecords
pub mod NotDue
pub mod DueAnswers
pub mod HeardLines
pub mod AnswerLines
pub mod Paths
pub mod Taken
pub mod Writable
pub mod TurnBytes
pub mod Keepers
pub mod Saves
