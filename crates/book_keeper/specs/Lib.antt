-- What a keeper of a book does.
pub mod Keeper
