-- What only contracts of private functions cite.
pub mod Reports
pub mod Verifiers
pub mod LineDrafts
pub mod Parts
pub mod Prepared
