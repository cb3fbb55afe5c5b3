-- How a book's text is read, step by step, from a TOML tree to the fields of a book. For private functions only: no public contract cites
-- these files.
pub mod Steps
pub mod Values
pub mod Rows
pub mod Tokens
pub mod Tables
pub mod Books
