-- Main lemmas: `absorbed_last`, by which a message's last block gives its digest, and `reads_block`, by which a prepared key has read its
-- padded block (both in Blocks).
-- Cited by `last_digest`, and by `signatures` and `outer_digest`, all in src/signing.rt. Read in this order:
-- Rounds: the schedule and the rounds of both hash functions, by the words so far.
-- Reading: what a hash has read as its message grows.
-- Blocks: padded keys, last blocks and digests.
pub mod Blocks
pub mod Reading
pub mod Rounds
