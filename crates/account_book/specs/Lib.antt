-- A book by its accounts, in the order in which to read it: their changes, their tokens and attempts with codes, what a SCRAM server is
-- shown of a name, how a book is saved, and laws.
pub mod Accounts
pub mod Enrolled
pub mod AccountAttempt
pub mod Tokens
pub mod View
pub mod Store
pub mod SavedBooks
pub mod Spent
pub mod Faults
pub mod Laws
-- what contracts of this crate speak of, for callers that do not list the crates below
pub use Rattle.book_format.specs.Account.{AccountFields, IsAccount, AreKeys}
pub use Rattle.book_format.specs.Book.{BookFields, IsBook}
pub use Rattle.book_format.specs.Trees.{IsBookText}
pub use Rattle.book_format.specs.declared.account.MechKeys.{MechKeys}
pub use Rattle.mac_core.specs.Mechanism.{name_of}
pub use Rattle.mac_core.specs.declared.mechanism.Mechanism.{Mechanism}
