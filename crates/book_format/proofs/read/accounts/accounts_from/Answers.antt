use Rattle.std.proofs.Common.{◌≡◌, ◌+◌, ◌++◌, ◌∷◌, [], ℕ, List, Ok, Result, ap, sym, subst, ◌∙◌, append_assoc, arith, nat_cmp, string_bytes}
use Rattle.std.specs.BTreeMap.{insert_entry}
use Rattle.std.specs.Cmp.Lexicographic.{slice_cmp}
use Rattle.std.specs.List.Sorted.{IsStrictlySortedBy}
use Rattle.std.specs.Map.{keys_of}
use Rattle.std.specs.String.{string_cmp}
use Rattle.toml.specs.Data.{Data, Members, member}
use Rattle.toml.specs.View.{view}
use Rattle.toml.proofs.Views.{Entry}
use Rattle.book_format.specs.inner.Books.{accounts_from, named_account_of}
use Rattle.book_format.specs.inner.Steps.{◌>>=◌}
use Rattle.book_format.specs.declared.fault.BookFault.{BookFault}
use Rattle.book_format.proofs.lemmas.Steps.{fact_holds_unless_err}
use Rattle.book_format.proofs.lemmas.InOrder.{Named, HaveKeys-last, inserted_account_goes_last}
use Rattle.book_format.proofs.lemmas.AccountTables.{entry_name_is_key}
use Rattle.book_format.proofs.lemmas.Lists.{value_moves_to_front}
use Rattle.book_format.proofs.read.accounts.accounts_from.Goals as goal

-- one more account moves from those that are left to those that were read
account_moves_to_front : (index : ℕ) (key : List ℕ) (d : Data) (ms : Members) (entry : Named) (front : List Named)
    (whole : Result (List Named) BookFault)
    → named_account_of key d ≡ Ok entry → (accounts_from index (member key d ms) >>= λ left. Ok (front ++ left)) ≡ whole
    → (accounts_from (index + 1) ms >>= λ left. Ok ((front ++ entry ∷ []) ++ left)) ≡ whole
unfolding accounts_from
account_moves_to_front index key d ms entry front whole read h =
    sym (value_moves_to_front front entry (accounts_from (index + 1) ms)) ∙ (rw read at h)

pub loop-key-preserved : goal.loop-key-preserved
loop-key-preserved c =
    let l = c.loop-key in
    let done = l.invariant.0 in
    let e : Entry = (c.in-Some.key.now, c.in-Some.value.now) in
    let left = c.next.new.self in
    let entry : Named = c.in-Ok.entry in
    let all : c.args.table.now.entries ≡ done ++ e ∷ left = l.invariant.1 ∙ ap (λ es. done ++ es) c.in-Some.ensures.steps in
    let read : named_account_of (string_bytes e.0) (view e.1) ≡ Ok entry = rw (← c.as_str.ensures.value) c.in-Ok.ensures in
    let named : entry.0 ≡ string_bytes e.0 = entry_name_is_key (string_bytes e.0) (view e.1) entry read in
    let last = inserted_account_goes_last l.accounts.entries done e left entry.1
    (subst (λ es. IsStrictlySortedBy string_cmp (keys_of es)) all c.iter-key-items.ensures.ordered) l.invariant.2 in
    let put : c.insert.new.self.entries ≡ l.accounts.entries ++ entry ∷ [] =
    fact_holds_unless_err (c.insert.new.self.entries ≡ insert_entry (slice_cmp nat_cmp) l.accounts.entries entry.0 entry.1) c.insert.result
    (sym c.if-is_err.ensures.value) c.insert.ensures.entries
    ∙ subst (λ key. insert_entry (slice_cmp nat_cmp) l.accounts.entries key entry.1 ≡ l.accounts.entries ++ (key, entry.1) ∷ [])
    (sym named) last in
    let count = rw c.in-Some.ensures.steps at l.invariant.4 in (
      done ++ e ∷ [],
      all ∙ sym (append_assoc done (e ∷ []) left),
      rw put (HaveKeys-last l.accounts.entries done entry e l.invariant.2 named),
      rw put (account_moves_to_front l.index (string_bytes e.0) (view e.1) _ entry l.accounts.entries _ read
          (rw c.in-Some.ensures.steps at l.invariant.3)),
      omega (arith, count),
    )
