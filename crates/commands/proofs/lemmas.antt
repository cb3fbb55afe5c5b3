-- Main lemma, `hall_prints_its_log` (HeardLines): a hall prints the log of what it heard of its input, and that log is a front.
-- Cited by `hear_input` of src/hall.rt. Read in this order:
-- Cases: one of several cases, weakened. Faults: with which a desk or a hall can't begin. TakenOutputs: an output, back from its log.
-- HaltedLogs: after a save that failed, a log ends with `S HALT`. EventWords: the words of an input line of `hall`.
-- HallLogs: its log after one more event. OneEvent: a line says at most one event. HeardLines: all lines of the input.
-- Nonces: random bytes make a part of a nonce. ClientLines: what the client of `login` may say. LogSays: it receives what the log says.
-- LoginGoesOn: how far its login has come. DeskLogs: the log stays the desk's. Logins: what of that log is printed.
-- Attempts: a run of `verify` as changes of its book. LeftBooks: the books that a run may leave. Printed: what `upgrade` prints.
-- Runs: a run of the program ends as the command that it runs.
pub mod Attempts
pub mod Cases
pub mod ClientLines
pub mod DeskLogs
pub mod EventWords
pub mod Faults
pub mod HallLogs
pub mod HaltedLogs
pub mod HeardLines
pub mod LeftBooks
pub mod LoginGoesOn
pub mod Logins
pub mod LogSays
pub mod Nonces
pub mod OneEvent
pub mod Printed
pub mod PrintedRows
pub mod ReportEnds
pub mod Runs
pub mod TakenOutputs
