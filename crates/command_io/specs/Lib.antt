-- What the commands share: files, the book that a run holds, lines of the input, and what is printed.
pub mod File
pub mod HeldBook
pub mod Input
pub mod Printed
-- what contracts of this crate speak of, for callers that do not list the crates below
pub use Rattle.book_keeper.specs.Keeper.{FailsToSave, IsChangeUnsaved, IsSavingReplyDue}
pub use Rattle.book_keeper.specs.declared.keeper.Keeper.{Keeper}
pub use Rattle.book_keeper.specs.declared.keeper.SaveFault.TheVariants.{NotSaved}
