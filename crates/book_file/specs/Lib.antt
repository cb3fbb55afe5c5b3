-- Which texts were read and written, how long they may be, and the faults of taking hold of a book.
pub mod Text
pub mod Saved
pub mod Faults
