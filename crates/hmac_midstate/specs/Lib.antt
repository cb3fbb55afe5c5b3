-- Keys prepared for HMAC. Read `Midstate` and `Prepared`; `Running` is of two hashes in one pass.
pub mod Midstate
pub mod Prepared
pub mod Running
