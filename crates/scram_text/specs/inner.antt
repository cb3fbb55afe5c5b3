-- How a message is cut into parts. For private functions only: no public contract cites these files.
pub mod Pieces
