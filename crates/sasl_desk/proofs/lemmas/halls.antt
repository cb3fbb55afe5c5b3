-- Main lemma, `turn_answers_hall_call` (Calls): a hall has answered a call when the session's turn was taken and its lines were written.
-- Cited by `Hall::hear`; laws of src/laws/hall.rt cite Phases, Logs, CallBytes, Records, Stores and Alone. Read in this order:
-- OpenSessions: open sessions, counted by number. Paths: the log goes on by the lines of a turn. Numbers: each number's calls and place.
-- Working: what is known before a halt. OpenAfterTurns: the open sessions after a turn. Turns: what a hall stands for after a step.
-- Steps: each turn is a step. Phases: a session has the phase of its place. Calls: a turn answers a call. Begins: a hall that begins.
-- Greetings: a client is let in, or turned away. Logs: the log is a front, and when it is clean. CallBytes: the bytes of its calls.
-- Records: the calls of each number have their records. Stores: what the store holds, wherever a hall stops.
-- Changes: no counter passes twice over any runs. Alone: what a login is told depends on no other session.
pub mod OpenSessions
pub mod Paths
pub mod Numbers
pub mod Working
pub mod OpenAfterTurns
pub mod Turns
pub mod Steps
pub mod Calls
pub mod Begins
pub mod Greetings
pub mod Phases
pub mod Logs
pub mod CallBytes
pub mod Records
pub mod Stores
pub mod Changes
pub mod Alone
