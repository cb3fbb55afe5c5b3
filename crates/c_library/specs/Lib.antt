-- The calls for C. Begin with `Demands`: each contract is written with it.
pub mod Demands
pub mod Numbers
pub mod Entries
pub mod Buffers
pub mod Logins
pub mod Prepared
pub mod Clients
pub mod Tokens
pub mod Verifiers
pub mod LogLines
pub mod Audits
pub mod Reports
pub mod inner
