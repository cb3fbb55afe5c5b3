use Rattle.std.proofs.Common.{◌≡◌, ◌∙◌, ap, sym, subst, Some, None}
use Rattle.book_format.specs.Book.{AreAccounts}
use Rattle.account_book.proofs.lemmas.Ranges.{token_keeps_ranges, change_keeps_ranges}
use Rattle.account_book.proofs.lemmas.Tokens.{attempt_without_token, attempt_on_token}
use Rattle.account_book.proofs.book.Book.judge.Goals as goal

pub invariant_of-self-inside-in_err-token : goal.invariant_of-self-inside-in_err-token
invariant_of-self-inside-in_err-token c =
    record {
      count = c.self-inside.invariant.count;
      accounts = subst AreAccounts (sym (c.get_mut.follows.holds _).0) (change_keeps_ranges _ _ _ _ c.self-inside.invariant.accounts
          (sym c.in_ok-account.ensures.value ∙ ap Some (sym c.account.view_is)) (λ is. is));
    }

pub returns-in_err-token : goal.returns-in_err-token
returns-in_err-token c =
    let none : c.account.inside.token ≡ None = sym (rw c.in_err-token.was at c.as_mut.ensures.value) in
    attempt_without_token _ _ _ (sym c.in_ok-account.ensures.value ∙ ap Some (sym c.account.view_is)) _ _
    (ap (λ book. book.contents) c.self-inside.view_is ∙ c.self.view_is) _ _ _ c.law_of_moments.ensures none
    c.from_residual-in_err-token.ensures (c.get_mut.follows.holds _).0

pub invariant_of-self-inside-2 : goal.invariant_of-self-inside-2
invariant_of-self-inside-2 c =
    record {
      count = c.self-inside.invariant.count;
      accounts = subst AreAccounts (sym (c.get_mut.follows.holds _).0) (change_keeps_ranges _ _ _ _ c.self-inside.invariant.accounts
          (sym c.in_ok-account.ensures.value ∙ ap Some (sym c.account.view_is)) (token_keeps_ranges _ _));
    }

pub returns : goal.returns
returns c =
    let has : c.account.inside.token ≡ Some c.in_ok-token.token.now = sym (rw c.in_ok-token.was at c.as_mut.ensures.value) in
    attempt_on_token _ _ _ (sym c.in_ok-account.ensures.value ∙ ap Some (sym c.account.view_is)) _ _
    (ap (λ book. book.contents) c.self-inside.view_is ∙ c.self.view_is) _ _ _ _ _ c.law_of_moments.ensures has
    c.judge.ensures (c.get_mut.follows.holds _).0
