use Rattle.account_book.proofs.lemmas.Ranges.{found_account_is_in_range, shown_account_is_in_range}
use Rattle.account_book.proofs.book.Book.account.Goals as goal

pub returns-clause-range : goal.returns-clause-range
returns-clause-range c =
    shown_account_is_in_range c.get.result _ c.get.ensures.value (found_account_is_in_range _ _ c.self-inside.invariant.accounts)
