-- A change of a book that is undone: what was added is removed, and a token is put back.
use Rattle.std.proofs.Common.{◌≡◌, inl, inr, refl, sym, ap, ◌∙◌, ℕ, true, List, [], ◌∷◌}
use Rattle.std.specs.declared.option.Option.TheVariants.{None, Some}
use Rattle.std.specs.Prelude.{MatchOption}
use Rattle.std.specs.declared.option.Option.{Option}
use Rattle.std.specs.declared.cmp.Ordering.{Ordering}
use Rattle.std.specs.declared.cmp.Ordering.TheVariants.{Less, Equal, Greater}
use Rattle.std.specs.Ordering.{match_ordering}
use Rattle.std.specs.BTreeMap.{is_at, insert_entry}
use Rattle.std.specs.Map.{lookup, remove_entry}
use Rattle.std.proofs.lemmas.Bool.{cases_Bool}
use Rattle.std.proofs.lemmas.Map.Text.{is_eq-slice_cmp}
use Rattle.std.proofs.lemmas.Slice.Eq.{bytes_eq-Decides}
use Rattle.otp_core.specs.declared.token.kinds.TokenFields.{TokenFields}
use Rattle.account_book.specs.{AccountFields, BookFields}
use Rattle.account_book.specs.Accounts.{name_cmp, with_changed, without_account, IsAdded, IsChanged, IsRemoved}
use Rattle.account_book.specs.Tokens.{token_at, with_token}
use Rattle.account_book.specs.declared.book.enrol.EnrolFault.{EnrolFault}
use Rattle.account_book.specs.declared.book.enrol.EnrolFault.TheVariants.{NameTaken, NoMemory}
use Rattle.account_book.proofs.lemmas.Tokens.{tokens_go_back}

-- if a token is put back, the book is as it was
pub put_back_restores_book : (old mid new : BookFields) (name : List ℕ) (token next : TokenFields) → token_at old name ≡ Some token
    → IsChanged old name (with_token next) mid → IsChanged mid name (with_token token) new → new ≡ old
put_back_restores_book old mid new name token next has first second =
    second
    ∙ ap (λ (b : BookFields). with_changed b name (with_token token)) first
    ∙ tokens_go_back old name token next has

-- entries to which one is added at the place that the order of its key to the first key gives, and from which it is then removed, are
-- as they were
added_first_is_removed : {K X : Type 0} (cmp : K → K → Ordering) (k : K) (v : X) (e : K × X) (es : List (K × X)) (o : Ordering)
    → cmp k e.0 ≡ o → is_at (cmp k) k ≡ true
    → lookup (is_at (cmp k)) (e ∷ es) ≡ None
    → remove_entry (is_at (cmp k)) (insert_entry cmp es k v) ≡ es
    → remove_entry (is_at (cmp k)) (match_ordering o ((k, v) ∷ e ∷ es) ((e.0, v) ∷ es) (e ∷ insert_entry cmp es k v)) ≡ e ∷ es
added_first_is_removed cmp k v e es Less order own lacks rest = rw own refl
added_first_is_removed cmp k v e es Equal order own lacks rest = absurd (cc (rw order at lacks))
added_first_is_removed cmp k v e es Greater order own lacks rest = rw order (ap (λ (t : List _). e ∷ t) rest)

-- if no entry has a key, none after the first has it
lacking_all_lacks_rest : {K X : Type 0} (cmp : K → K → Ordering) (k : K) (e : K × X) (es : List (K × X))
    → lookup (is_at (cmp k)) (e ∷ es) ≡ None → lookup (is_at (cmp k)) es ≡ None
lacking_all_lacks_rest cmp k e es lacks = elim (cases_Bool (is_at (cmp k) e.0)) [
  | inl is ↦ absurd (cc (rw is at lacks))
  | inr apart ↦ rw apart at lacks
]

-- an entry that is added at a key which is not among the entries, and then removed, leaves them as they were
added_entry_is_removed : {K X : Type 0} (cmp : K → K → Ordering) (k : K) (v : X) (es : List (K × X)) → is_at (cmp k) k ≡ true
    → lookup (is_at (cmp k)) es ≡ None
    → remove_entry (is_at (cmp k)) (insert_entry cmp es k v) ≡ es
added_entry_is_removed cmp k v [] own lacks = rw own refl
added_entry_is_removed cmp k v (e ∷ es) own lacks =
    added_first_is_removed cmp k v e es (cmp k e.0) refl own lacks
    (added_entry_is_removed cmp k v es own (lacking_all_lacks_rest cmp k e es lacks))

-- if an account is added and then removed, the book is as it was
pub removal_restores_book : (old mid new : BookFields) (name : List ℕ) (account : AccountFields) → IsAdded old name account mid
    → IsRemoved mid name new → new ≡ old
removal_restores_book old mid new name account first second =
    second
    ∙ ap (λ (b : BookFields). without_account b name) first.added
    ∙ ap (λ (es : List (List ℕ × AccountFields)). record old { accounts = es })
    (added_entry_is_removed name_cmp name account old.accounts
    (is_eq-slice_cmp name name ∙ (bytes_eq-Decides name name).1 refl) first.free)

-- if an account can't be added, and not because its name is taken, its name has no account
pub free_name_has_no_account : (found : Option AccountFields) (fault : EnrolFault) → fault ≡ NoMemory
    → MatchOption found (fault ≡ NoMemory) (λ account. fault ≡ NameTaken) → found ≡ None
free_name_has_no_account None fault memory why = refl
free_name_has_no_account (Some account) fault memory why = absurd (cc (sym memory ∙ why))
