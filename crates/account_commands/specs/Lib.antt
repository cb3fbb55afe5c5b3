-- What `code`, `enrol`, `keys` and `unlock` do, and which faults end them.
pub mod Code
pub mod Enrol
pub mod Keys
pub mod Unlock
