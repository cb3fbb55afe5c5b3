-- The steps of `login` and `hall`, and how `report` prints rows. For private functions only: no public contract cites these files.
pub mod ClientSteps
pub mod DeskLogSteps
pub mod TurnFaults
pub mod HallSteps
pub mod RowsAsked
pub mod PrintedRows
