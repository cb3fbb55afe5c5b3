-- Main lemmas, `turn_answers_desk_call` (runs/Calls) and `turn_answers_hall_call` (halls/Calls): a desk or a hall has answered a call when
-- the session's turn was taken and its lines were written.
-- Cited by `Desk::hear` and `Hall::hear`. Read in this order:
-- Lists: what is counted and found in lists.
-- turns: one turn of one session.
-- runs: what a desk stands for after each call, and over runs.
-- halls: what a hall stands for after each call.
pub mod Lists
pub mod turns
pub mod runs
pub mod halls
