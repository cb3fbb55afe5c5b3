-- Main lemma, `zero_iff_valid` (Verdicts): the number that is told with the message due is 0 if and only if the login is valid.
-- Cited by `scramotp_server_final`. Read in this order:
-- Demands: the first fault of two lists of demands, one after the other.
-- Challenges: a composed challenge is the only one to its client-first message.
-- Verdicts: the number of a verdict.
-- ActAs: the texts of a list, and the name to act as. Parts: an entry in parts makes the same logins as the entry that a struct holds.
-- Prepared: prepared keys of an entry sign for its keys.
-- Clients: an answer of a client has room, and is its client-final message.
-- Audits: what `scramotp_audit` tells is what the audit has found.
pub mod ActAs
pub mod Audits
pub mod Reports
pub mod Challenges
pub mod Clients
pub mod Demands
pub mod Parts
pub mod Prepared
pub mod Verdicts
pub mod Verifiers
