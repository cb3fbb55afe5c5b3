-- The words of the command line, and the values that they give.
pub mod Commands
pub mod Values
