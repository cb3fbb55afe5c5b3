use Rattle.std.proofs.Common.{◌≡◌, ℕ, List, [], ◌∷◌, ◌++◌, sym, ap, ◌∙◌, subst, append_assoc, nat_cmp, rules}
use Rattle.std.specs.Cmp.Lexicographic.{slice_cmp}
use Rattle.std.specs.List.Sorted.{IsStrictlySortedBy}
use Rattle.std.specs.Map.{keys_of}
use Rattle.book_format.specs.Account.{AccountFields}
use Rattle.book_format.specs.Book.{AreAccounts}
use Rattle.book_format.specs.Written.{accounts_tree}
use Rattle.book_format.proofs.lemmas.Put.{put_account_goes_last}
use Rattle.book_format.proofs.lemmas.WritesItself.{middle_account_is_in_range, more_accounts_are_trees}
use Rattle.book_format.proofs.write.accounts_table.Goals as goal

pub loop-name-init : goal.loop-name-init
unfolding accounts_tree
loop-name-init c = ([], search rules, search rules, tt)

pub loop-name-preserved : goal.loop-name-preserved
loop-name-preserved c =
    let l = c.loop-name in
    let done = l.invariant.0 in
    let e : List ℕ × AccountFields = (c.in-Some.name.now, c.in-Some.account.now) in
    let left = c.next.new.self in
    let all : c.args.accounts.now.entries ≡ done ++ e ∷ left = l.invariant.1 ∙ ap (λ es. done ++ es) c.in-Some.ensures.steps in
    let last = put_account_goes_last done e left (subst
    (λ es. IsStrictlySortedBy (slice_cmp nat_cmp) (keys_of es)) all c.iter-name-items.ensures.ordered) in
    let tree = c.in_ok-account_value.ensures.itself (middle_account_is_in_range done e left (subst AreAccounts all c.requires)) in (
      done ++ e ∷ [],
      all ∙ sym (append_assoc done (e ∷ []) left),
      c.in_ok-put.ensures ∙ rw (c.text.ensures.value, c.in_ok-account_value.ensures.tree, l.invariant.2) last,
      more_accounts_are_trees done e l.invariant.3 c.text.ensures.fits tree,
    )
