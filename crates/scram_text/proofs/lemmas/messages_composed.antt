-- Main lemmas, `written_is_client_first`, `written_is_server_first`, `written_is_client_final` and `written_is_server_final`: the text of
-- what can be written as such a message is one, if it is within the limit.
-- Cited by each `draft_of` but that of client-final, and by `scram_ends`, `log_grammar` and `c_library`. Read in this order:
-- Joined: texts and extensions, joined by commas.
-- ClientFirst, ServerFirst, ClientFinal, ServerFinal: each message is the text of its parts.
pub mod ClientFinal
pub mod ClientFirst
pub mod Joined
pub mod ServerFinal
pub mod ServerFirst
