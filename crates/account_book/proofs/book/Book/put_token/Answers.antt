use Rattle.std.proofs.Common.{◌∙◌, ap, sym, subst, Some}
use Rattle.book_format.specs.Book.{AreAccounts}
use Rattle.account_book.proofs.lemmas.Ranges.{token_keeps_ranges, change_keeps_ranges}
use Rattle.account_book.proofs.book.Book.put_token.Goals as goal

pub invariant_of-self-inside : goal.invariant_of-self-inside
invariant_of-self-inside c =
    record {
      count = c.self-inside.invariant.count;
      accounts = subst AreAccounts (sym (c.get_mut.follows.holds _).0) (change_keeps_ranges _ _ _ _ c.self-inside.invariant.accounts
          (sym c.in-Some.ensures.value ∙ ap Some (sym c.account.view_is)) (token_keeps_ranges _ _));
    }
