-- Main lemmas, `each_log_of_any_version_is_judged` and `log_has_one_judgement` (kinds/OneAnswer): each log is clean, or exactly one line of
-- it is at fault, for exactly one reason.
-- Cited by laws of src/judgements.rt and src/logs.rt, by upgraded_logs, and by the audits of `sasl_log`. Read in this order:
-- ListEnds: lists by their last element. DecidedFacts: decidable facts, combined. lines: the texts of lines.
-- demands: the challenge, the outcome and the reply that are demanded. state_machine: logs of version 1, line by line.
-- many_sessions: logs of version 2, line by line. completions: each front begins a clean log. kinds: each log has one answer.
-- session_laws: the sessions of a clean log. upgraded_logs: a log of version 1, with numbers. outcome_laws: where the server's lines stand.
-- login_laws: the logins of a log. reply_laws: the counters that passed. reason_laws: what may replace the line at fault.
-- small_logs: logs of a few lines. whole_sessions: clean logs in terms of whole sessions. fault_laws: faults in these terms.
pub mod ListEnds
pub mod DecidedFacts
pub mod completions
pub mod demands
pub mod fault_laws
pub mod session_laws
pub mod kinds
pub mod lines
pub mod login_laws
pub mod many_sessions
pub mod outcome_laws
pub mod reason_laws
pub mod reply_laws
pub mod small_logs
pub mod state_machine
pub mod upgraded_logs
pub mod whole_sessions
