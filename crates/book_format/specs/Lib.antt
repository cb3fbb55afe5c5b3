-- Which text is that of an account book, which first fault another text has, and the text that a book is written as.
-- In the order in which to read them: what a book is; demands, rows and types; the tables; first faults, trees, texts, laws.
pub mod Account
pub mod Book
pub mod Faults
pub mod Keys
pub mod Put
pub mod Demands
pub mod Rows
pub mod Names
pub mod ValueTypes
pub mod RowKinds
pub mod Tokens
pub mod Tables
pub mod FirstFault
pub mod Trees
pub mod Readings
pub mod Laws
pub mod Written
pub mod inner
