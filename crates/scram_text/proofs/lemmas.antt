-- Main lemmas, `has_one_client_first`, `has_one_server_first`, `has_one_client_final` and `has_one_server_final`, each in its message's
-- file: a text is such a message with at most one list of parts.
-- Cited by the laws of these names, and by `scram_ends`, `log_grammar`, `sasl_log`, `sasl_desk` and `c_library`. Read in this order:
-- ListEnds: lists by their ends. WithoutByte: bytes without a certain one. CutAtByte: a cut at a byte. SplitLines: cuts at each LF.
-- FirstUnmet: the first row of a table that is not met. Parts: a text, cut at its commas. PartsUtf8: its parts are UTF-8.
-- Base64Texts, Base64: the base64 of bytes. Counts: decimals. AttrVals: a letter, `=` and a value. Places: parts and their places.
-- Extensions: the extensions that are left. MextAndRest: a mandatory extension and the rest. ReadMessages: a reader reads each message.
-- ClientFirst, ServerFirst, ClientFinal, ServerFinal: the parts of each message. Names: how a name is spelled. Texts: UTF-8 without NUL.
-- Decided, NamesDecided: decidable parts and names. messages_composed: messages that are written. messages_decided: decidable messages.
pub mod AttrVals
pub mod Base64
pub mod Base64Texts
pub mod ClientFinal
pub mod ClientFirst
pub mod Counts
pub mod CutAtByte
pub mod Decided
pub mod Extensions
pub mod FirstUnmet
pub mod ListEnds
pub mod MextAndRest
pub mod Names
pub mod NamesDecided
pub mod Parts
pub mod PartsUtf8
pub mod Places
pub mod ReadMessages
pub mod ServerFinal
pub mod ServerFirst
pub mod SplitLines
pub mod Texts
pub mod WithoutByte
pub mod messages_composed
pub mod messages_decided
