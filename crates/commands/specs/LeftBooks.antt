-- Which books a run may leave: of each text that its store may hold when it ends, the book.
use Rattle.std.specs.Prelude.{ℕ, List}
use Rattle.account_book.specs.{BookFields, IsBookText}
use Rattle.account_book.specs.Enrolled.{enrolled}
use Rattle.account_book.specs.Store.{StoreFacts}
use Rattle.sasl_desk.specs.Changes.{Change, added, AreChanges}
use Rattle.command_io.specs.declared.new_account.NewAccount.{NewAccount}
use Rattle.command_io.specs.declared.new_account.Salts.{Salts}

-- the change of a book to which an account with the keys of a password is added
abbrev pub addition_of : NewAccount → Salts → Change
addition_of account salts = added account.name (enrolled account.password salts.sha1 salts.sha256 account.count)

-- the text is of a book to which these changes, the latest of which comes first, lead from this one
abbrev pub IsTextAfter : {S : Type 0} → (S → StoreFacts) → (IsStored : List ℕ → Type 0) → (start : BookFields) → List Change
    → (text : List ℕ) → Type 0
IsTextAfter facts IsStored start changes text = (left : BookFields) × AreChanges facts IsStored start changes left × IsBookText text left
