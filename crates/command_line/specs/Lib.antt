-- Faults with their exit statuses, the names of options, and the texts that options refuse.
pub mod Fault
pub mod Options
pub mod Values
