-- HMAC, the keys of SCRAM, and both for each mechanism. Read `Hmac`, `Keys`, `Mechanism`; `Digest` is only a length that a trait cites.
pub mod Digest
pub mod Hmac
pub mod Keys
pub mod Mechanism
