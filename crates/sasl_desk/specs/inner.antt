-- A session turn by turn. For private functions only: no public contract cites these files.
pub mod Prefix
pub mod SessionTurns
pub mod TurnResults
