-- The contents of an account book, and their ranges.
use Rattle.std.specs.Prelude.{ℕ, List}
use Rattle.std.specs.List.{AllByRecursion}
use Rattle.scram_text.specs.Parts.{IsCount}
use Rattle.book_format.specs.Account.{AccountFields, IsAccount}

-- a book: what decoys are made from, and the accounts by their names, in byte order of the names
pub record BookFields : Type 0 where
  pub decoy_key : List ℕ
  pub decoy_count : ℕ
  pub accounts : List (List ℕ × AccountFields)

-- each account is in its ranges
abbrev pub AreAccounts : List (List ℕ × AccountFields) → Type 0
AreAccounts entries = AllByRecursion (λ entry. IsAccount entry.1) entries

-- a book is in its ranges. That the decoy key has 32 bytes and that the names ascend follows from the types in the code.
pub record IsBook (book : BookFields) : Type 0 where
  pub count : IsCount book.decoy_count
  pub accounts : AreAccounts book.accounts
