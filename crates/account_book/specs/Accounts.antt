-- A book as accounts by their names, in byte order of the names: the account at a name, and books in which one account changes; and
-- the accounts as a map from names. `Laws` says what each change does to this map.
use Rattle.std.specs.Prelude.{ℕ, ◌≡◌, List, Option, None}
use Rattle.std.specs.Option.{option_map_or}
use Rattle.std.specs.FinMap as map
use Rattle.std.specs.FinMap.{FinMap, from_entries}
use Rattle.std.specs.declared.cmp.Ordering.{Ordering}
use Rattle.std.specs.Ordering.{nat_cmp}
use Rattle.std.specs.Cmp.Lexicographic.{slice_cmp}
use Rattle.std.specs.BTreeMap.{is_at, insert_entry}
use Rattle.std.specs.Map.{lookup, remove_entry, set_value}
use Rattle.book_format.specs.Account.{AccountFields}
use Rattle.book_format.specs.Book.{BookFields}

-- the order of names: that of their bytes
abbrev pub name_cmp : List ℕ → List ℕ → Ordering
name_cmp = slice_cmp nat_cmp

-- the account of this name
abbrev pub account_at : BookFields → List ℕ → Option AccountFields
account_at book name = lookup (is_at (name_cmp name)) book.accounts

-- the book with one more account, at a name that is free
abbrev pub with_account : BookFields → List ℕ → AccountFields → BookFields
with_account book name account = record book { accounts = insert_entry name_cmp book.accounts name account }

-- the book without the account of this name, if there is one
abbrev pub without_account : BookFields → List ℕ → BookFields
without_account book name = record book { accounts = remove_entry (is_at (name_cmp name)) book.accounts }

-- the book in which the account of this name, if there is one, is changed
abbrev pub with_changed : BookFields → List ℕ → (AccountFields → AccountFields) → BookFields
with_changed book name change = record book {
  accounts =
      option_map_or (λ account. set_value (is_at (name_cmp name)) book.accounts (change account))
      (account_at book name) book.accounts;
}

-- the account, changed so that it may act as these names
abbrev pub with_act_as : List (List ℕ) → AccountFields → AccountFields
with_act_as names account = record account { act_as = names }

-- the accounts of a book, as a map from names
abbrev pub account_map : BookFields → FinMap name_cmp AccountFields
account_map book = from_entries book.accounts

-- the map in which the account of this name, if there is one, is changed
abbrev pub map_changed : FinMap name_cmp AccountFields → List ℕ → (AccountFields → AccountFields)
    → FinMap name_cmp AccountFields
map_changed accounts name change =
    option_map_or (λ account. map.insert accounts name (change account)) (map.get accounts name) accounts

-- the account of this name, if there is one, is changed, and nothing else
abbrev pub IsChanged : BookFields → List ℕ → (AccountFields → AccountFields) → BookFields → Type 0
IsChanged old name change new = new ≡ with_changed old name change

-- this account is added at a name that is free, and nothing else changes
pub record IsAdded (old : BookFields) (name : List ℕ) (account : AccountFields) (new : BookFields) : Type 0 where
  pub free : account_at old name ≡ None
  pub added : new ≡ with_account old name account

-- the account of this name, if there is one, is removed, and nothing else changes
abbrev pub IsRemoved : BookFields → List ℕ → BookFields → Type 0
IsRemoved old name new = new ≡ without_account old name
