-- How the counter of a pass is found. For private functions only: no public contract cites these files.
pub mod Passes
