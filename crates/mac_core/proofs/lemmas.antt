-- Main lemma, `length-hmac_by` (Lengths): a MAC has as many bytes as the mechanism's digests.
-- Cited by `scram_ends`, by `c_library`, and by completions, demands and login_laws of `log_grammar`. Read in this order:
-- Lengths: the length of a MAC.
-- Digests: digests and MACs are bytes, and XORing twice with the same bytes changes nothing.
-- Among: the test for a name among names.
-- Decided: decidable facts, for the crates above.
pub mod Among
pub mod Decided
pub mod Digests
pub mod Lengths
