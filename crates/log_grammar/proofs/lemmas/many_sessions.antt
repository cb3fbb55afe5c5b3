-- Main lemmas, `numbered_log_goes_on` (LogSteps) and `numbered_log_has_last_transition` (WithoutLast): a log of version 2 goes on with a
-- line if and only if the line may come next, may stand at its number's place, and is the reply due if it is a reply.
-- Cited by laws of src/version_two/sequences.rt, by completions, kinds, outcome_laws, reason_laws, reply_laws and upgraded_logs, and by
-- `commands`, `sasl_desk` and `sasl_log`. Read in this order:
-- LinesOfNumber: the lines of one number among all. Visits: a number's lines with one more or one less. NumberedReplies: replies by number.
-- LogSteps: a log with one line more. WithoutLast: a log without its last line. HaltAndBusy: where HALT and BUSY lead.
-- OneReading: the places and the replies of a log follow from its lines. OwnPlaces: a number's place follows from its own lines.
-- OpenCounts: open and closed sessions are together those that began. DemandsAside: a log is also one without demands.
-- DueClasses: which classes are due at a number. Standings: the log goes on with a line, its class is not due, or it is wrong.
-- Ends: it is decidable whether a log may end.
pub mod LinesOfNumber
pub mod Visits
pub mod NumberedReplies
pub mod LogSteps
pub mod WithoutLast
pub mod HaltAndBusy
pub mod OneReading
pub mod OwnPlaces
pub mod OpenCounts
pub mod DemandsAside
pub mod DueClasses
pub mod Standings
pub mod Ends
