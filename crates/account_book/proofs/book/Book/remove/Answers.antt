use Rattle.std.proofs.Common.{ap, ◌∙◌, sym, subst}
use Rattle.book_format.specs.Book.{AreAccounts}
use Rattle.account_book.proofs.lemmas.Ranges.{remove_entry_keeps_ranges}
use Rattle.account_book.proofs.lemmas.Maps.{account_is_removed, map_follows_removal}
use Rattle.account_book.proofs.book.Book.remove.Goals as goal

pub invariant_of-self-inside : goal.invariant_of-self-inside
invariant_of-self-inside c =
    record {
      count = c.self-inside.invariant.count;
      accounts = subst AreAccounts (sym c.remove.ensures.entries) (remove_entry_keeps_ranges _ _ c.self-inside.invariant.accounts);
    }

pub returns-clause-removed : goal.returns-clause-removed
returns-clause-removed c =
    account_is_removed _ _ _ _ (ap (λ book. book.contents) c.self-inside.view_is ∙ c.self.view_is) c.remove.ensures.entries

pub returns-clause-mapped : goal.returns-clause-mapped
returns-clause-mapped c =
    map_follows_removal _ _ _ _ (ap (λ book. book.contents) c.self-inside.view_is ∙ c.self.view_is) c.remove.ensures.updates.0
