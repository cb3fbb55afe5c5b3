-- Main lemmas, `client_first_is_decided`, `server_first_is_decided`, `client_final_is_decided` and `server_final_is_decided`: it is
-- decidable whether a text is such a message.
-- Cited by the laws of these names, by `scram_ends`, and by demands of `log_grammar`. Read in this order:
-- Fitting: it is decidable whether a text has enough parts, all of which fit.
-- ClientFirst, ServerFirst, ClientFinal, ServerFinal: a text is such a message if its parts all fit.
pub mod ClientFinal
pub mod ClientFirst
pub mod Fitting
pub mod ServerFinal
pub mod ServerFirst
