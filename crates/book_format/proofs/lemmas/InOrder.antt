-- A map that is filled in the order of its keys.
use Rattle.std.proofs.Common.{◌≡◌, ℕ, List, [], ◌∷◌, ◌++◌, Greater, nat_cmp, string_bytes, refl, sym, ap, ◌∙◌}
use Rattle.std.proofs.lemmas.Cmp.{nat_list_cmp_total}
use Rattle.std.specs.Cmp.Lexicographic.{slice_cmp}
use Rattle.std.specs.List.Sorted.{IsStrictlySortedBy}
use Rattle.std.specs.Map.{keys_of}
use Rattle.std.specs.String.{string_cmp}
use Rattle.std.specs.Ordering.{ordering_reverse}
use Rattle.std.specs.BTreeMap.{insert_entry}
use Rattle.toml.proofs.Views.{Entry}
use Rattle.book_format.specs.Account.{AccountFields}
use Rattle.book_format.proofs.lemmas.Put.{key_is_below_middle}

-- an account with its name
abbrev pub Named : Type 0
Named = List ℕ × AccountFields

-- the accounts have the keys of these entries, in order
abbrev pub HaveKeys : List Named → List Entry → Type 0
HaveKeys [] [] = Unit {0}
HaveKeys [] (e ∷ done) = ⊥
HaveKeys (a ∷ accounts) [] = ⊥
HaveKeys (a ∷ accounts) (e ∷ done) = (a.0 ≡ string_bytes e.0) × HaveKeys accounts done

-- accounts with the keys of some entries, and one more account with the key of one more entry, have the keys of all
pub HaveKeys-last : (accounts : List Named) (done : List Entry) (a : Named) (e : Entry) → HaveKeys accounts done → a.0 ≡ string_bytes e.0
    → HaveKeys (accounts ++ a ∷ []) (done ++ e ∷ [])
HaveKeys-last [] [] a e h same = (same, tt)
HaveKeys-last [] (d ∷ done) a e h same = absurd h
HaveKeys-last (x ∷ accounts) [] a e h same = absurd h
HaveKeys-last (x ∷ accounts) (d ∷ done) a e h same = (h.0, HaveKeys-last accounts done a e h.1 same)

-- an account whose key is above those before it is inserted last
pub inserted_account_goes_last : (accounts : List Named) (done : List Entry) (e : Entry) (more : List Entry) (account : AccountFields)
    → IsStrictlySortedBy string_cmp (keys_of (done ++ e ∷ more)) → HaveKeys accounts done
    → insert_entry (slice_cmp nat_cmp) accounts (string_bytes e.0) account ≡ accounts ++ (string_bytes e.0, account) ∷ []
unfolding IsStrictlySortedBy
inserted_account_goes_last [] [] e more account h same = refl
inserted_account_goes_last [] (d ∷ done) e more account h same = absurd same
inserted_account_goes_last (a ∷ accounts) [] e more account h same = absurd same
inserted_account_goes_last (a ∷ accounts) (d ∷ done) e more account h same =
    let above : slice_cmp nat_cmp (string_bytes e.0) (string_bytes d.0) ≡ Greater =
    nat_list_cmp_total.antisymm (string_bytes e.0) (string_bytes d.0) ∙ ap ordering_reverse
    (key_is_below_middle string_cmp d.0 done e more h.0) in
    rw (same.0, above) (ap (λ rest. (string_bytes d.0, a.1) ∷ rest) (inserted_account_goes_last accounts done e more account h.1 same.1))
    ∙ ap
    (λ key. (key, a.1) ∷ (accounts ++ (string_bytes e.0, account) ∷ [])) (sym same.0)
