-- What is changed, added or removed in the list of a book's accounts is changed, added or removed in their map.
use Rattle.std.proofs.Common.{◌≡◌, ◌∙◌, refl, ap, sym, subst, cond, List, [], ◌∷◌, ℕ, Bor, Option, IsSome, option_copied}
use Rattle.std.specs.declared.option.Option.TheVariants.{None, Some}
use Rattle.std.specs.declared.cmp.Ordering.{Ordering}
use Rattle.std.specs.declared.cmp.Ordering.TheVariants.{Less, Equal, Greater}
use Rattle.std.specs.Ordering.{eq_by_cmp, match_ordering}
use Rattle.std.specs.FinMap as map
use Rattle.std.specs.FinMap.{from_entries, get-from_entries, get-insert, get-remove, same_map, slice_cmp-IsAntisymmetric, nat_cmp-IsAntisymmetric}
use Rattle.std.specs.FinMap.Entries.{by_order, find, find-put, put}
use Rattle.std.specs.Option.{option_map_or}
use Rattle.std.specs.BTreeMap.{is_at, insert_entry}
use Rattle.std.specs.Map.{lookup, remove_entry, set_value}
use Rattle.std.proofs.lemmas.Cmp.{eq_by_cmp_equiv, nat_list_cmp_total}
use Rattle.std.proofs.lemmas.Map.{lookup-set_value}
use Rattle.std.proofs.lemmas.Map.Text.{is_eq-slice_cmp}
use Rattle.book_format.specs.Account.{AccountFields}
use Rattle.book_format.specs.Book.{BookFields}
use Rattle.account_book.specs.Accounts.{name_cmp, account_at, account_map, IsRemoved}
use Rattle.account_book.specs.Laws.{AddedIsApart, MapsFollowChanges, MapsFollowAdditions}

-- a look-up of a name by `find` and one by `lookup` give the same result
find_is_lookup : (name : List ℕ) (es : List (List ℕ × AccountFields))
    → find name_cmp name es ≡ lookup (is_at (name_cmp name)) es
find_is_lookup name [] = refl
find_is_lookup name (e ∷ es) = ap (cond (eq_by_cmp name_cmp name e.0) (Some e.1)) (find_is_lookup name es)

-- in the map of a list of accounts a name has the account that a look-up in the list finds
map_get_is_lookup : (es : List (List ℕ × AccountFields)) (name : List ℕ)
    → map.get (from_entries {R = name_cmp} es) name ≡ lookup (is_at (name_cmp name)) es
map_get_is_lookup es name = get-from_entries nat_list_cmp_total es name ∙ find_is_lookup name es

-- an account that a look-up shows is the one that the map has
pub account_is_in_map : (r : Option (Bor AccountFields)) (book : BookFields) (name : List ℕ) → option_copied r ≡ account_at book name
    → option_copied r ≡ map.get (account_map book) name
account_is_in_map r book name found = found ∙ sym (map_get_is_lookup book.accounts name)

-- a list and a map that give the same result for each look-up are the same map
maps_are_same : (es : List (List ℕ × AccountFields)) (m : map.FinMap name_cmp AccountFields)
    → ((name : List ℕ) → lookup (is_at (name_cmp name)) es ≡ map.get m name) → from_entries es ≡ m
maps_are_same es m alike =
    same_map nat_list_cmp_total (slice_cmp-IsAntisymmetric nat_cmp-IsAntisymmetric) _ _ (λ name. map_get_is_lookup es name ∙ alike name)

-- if a list's look-ups are those of another except for one name, its map is the other's with this account inserted there
map_follows_insert : (es new : List (List ℕ × AccountFields)) (name : List ℕ) (account : AccountFields)
    → ((other : List ℕ) → lookup (is_at (name_cmp other)) new
    ≡ cond (is_at (name_cmp name) other) (Some account) (lookup (is_at (name_cmp other)) es))
    → from_entries {R = name_cmp} new ≡ map.insert (from_entries es) name account
map_follows_insert es new name account alike =
    maps_are_same new _ (λ other. alike other
    ∙ sym (get-insert nat_list_cmp_total (from_entries es) name account other
    ∙ ap (λ b. cond b (Some account) (map.get (from_entries {R = name_cmp} es) other))
    ((eq_by_cmp_equiv nat_list_cmp_total).symm other name)
    ∙ ap (cond (is_at (name_cmp name) other) (Some account)) (map_get_is_lookup es other)))

-- if a list's look-ups are those of another except for one name, which it lacks, its map is the other's without this name
map_follows_remove : (es new : List (List ℕ × AccountFields)) (name : List ℕ)
    → ((other : List ℕ) → lookup (is_at (name_cmp other)) new
    ≡ cond (is_at (name_cmp name) other) None (lookup (is_at (name_cmp other)) es))
    → from_entries {R = name_cmp} new ≡ map.remove (from_entries es) name
map_follows_remove es new name alike =
    maps_are_same new _ (λ other. alike other
    ∙ sym (get-remove nat_list_cmp_total (from_entries es) name other
    ∙ ap (λ b. cond b None (map.get (from_entries {R = name_cmp} es) other)) ((eq_by_cmp_equiv nat_list_cmp_total).symm other name)
    ∙ ap (cond (is_at (name_cmp name) other) None) (map_get_is_lookup es other)))

-- if the account that a look-up finds is changed in the list, it is changed in the map; if none is found, neither changes
map_follows_change : (es : List (List ℕ × AccountFields)) (name : List ℕ) (change : AccountFields → AccountFields)
    (o : Option AccountFields) → lookup (is_at (name_cmp name)) es ≡ o
    → from_entries {R = name_cmp} (option_map_or (λ account. set_value (is_at (name_cmp name)) es (change account)) o es)
    ≡ option_map_or (λ account. map.insert (from_entries es) name (change account)) o (from_entries es)
map_follows_change es name change None found = refl
map_follows_change es name change (Some account) found =
    map_follows_insert es _ name (change account) (λ other.
    lookup-set_value (eq_by_cmp_equiv nat_list_cmp_total) (is_at (name_cmp name))
    (λ x y at. (eq_by_cmp_equiv nat_list_cmp_total).congr name x y at) other (change account) es
    (subst IsSome (sym found) refl))

-- the law: in the map of a book in which an account is changed, this account is changed, and no other
pub maps_follow_changes : MapsFollowChanges
maps_follow_changes old name change =
    map_follows_change old.accounts name change _ refl
    ∙ ap (λ o. option_map_or (λ account. map.insert (account_map old) name (change account)) o (account_map old))
    (sym (map_get_is_lookup old.accounts name))

-- the two functions that choose one of three by an ordering choose the same
match_ordering_is_by_order : {A : Type 0} (o : Ordering) (x y z : A) → match_ordering o x y z ≡ by_order o x y z
match_ordering_is_by_order Less x y z = refl
match_ordering_is_by_order Equal x y z = refl
match_ordering_is_by_order Greater x y z = refl

-- `insert_entry` and `put` insert an account at the same place
insert_entry_is_put : (es : List (List ℕ × AccountFields)) (name : List ℕ) (account : AccountFields)
    → insert_entry name_cmp es name account ≡ put name_cmp name account es
insert_entry_is_put [] name account = refl
insert_entry_is_put (e ∷ es) name account =
    match_ordering_is_by_order (name_cmp name e.0) _ _ _
    ∙ ap (λ rest. by_order (name_cmp name e.0) ((name, account) ∷ e ∷ es) ((e.0, account) ∷ es) (e ∷ rest))
    (insert_entry_is_put es name account)

-- after an account is added, its name has it, and each other name has what it had
lookup-insert_entry : (es : List (List ℕ × AccountFields)) (name : List ℕ) (account : AccountFields) (other : List ℕ)
    → lookup (is_at (name_cmp other)) (insert_entry name_cmp es name account)
    ≡ cond (is_at (name_cmp name) other) (Some account) (lookup (is_at (name_cmp other)) es)
lookup-insert_entry es name account other =
    sym (find_is_lookup other _)
    ∙ ap (find name_cmp other) (insert_entry_is_put es name account)
    ∙ find-put name_cmp nat_list_cmp_total other name account es
    ∙ ap (λ b. cond b (Some account) (find name_cmp other es)) ((eq_by_cmp_equiv nat_list_cmp_total).symm other name)
    ∙ ap (cond (is_at (name_cmp name) other) (Some account)) (find_is_lookup other es)

-- the law: the map of a book with one more account is that of the book with this account inserted
pub maps_follow_additions : MapsFollowAdditions
maps_follow_additions old name account =
    map_follows_insert old.accounts _ name account (lookup-insert_entry old.accounts name account)

-- the law: after an account is added, its name has it, and each other name has what it had
pub added_is_apart : AddedIsApart
added_is_apart old name account other =
    lookup-insert_entry old.accounts name account other
    ∙ ap (λ b. cond b (Some account) (account_at old other)) (is_eq-slice_cmp name other)

-- a book whose accounts are those of another without one is that book without this account
pub account_is_removed : (inside old : BookFields) (name : List ℕ) (new : List (List ℕ × AccountFields)) → inside ≡ old
    → new ≡ remove_entry (is_at (name_cmp name)) inside.accounts → IsRemoved old name (record inside { accounts = new })
account_is_removed inside old name new shown same =
    subst (λ book. IsRemoved book name (record inside { accounts = new })) shown
    (ap (λ accounts. record inside { accounts = accounts }) same)

-- the map of a book without the account of a name is that of the book with this name removed
pub map_follows_removal : (inside old : BookFields) (name : List ℕ) (new : List (List ℕ × AccountFields)) → inside ≡ old
    → ((other : List ℕ) → lookup (is_at (name_cmp other)) new
    ≡ cond (is_at (name_cmp name) other) None (account_at inside other))
    → account_map (record inside { accounts = new }) ≡ map.remove (account_map old) name
map_follows_removal inside old name new shown alike =
    subst (λ book. account_map (record inside { accounts = new }) ≡ map.remove (account_map book) name) shown
    (map_follows_remove inside.accounts new name alike)
