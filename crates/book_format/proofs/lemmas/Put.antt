-- What an insert does to a table, and which keys are there after it.
use Rattle.std.proofs.Common.{◌≡◌, ℕ, Bool, true, false, not, ◌&&◌, List, [], ◌∷◌, ◌++◌, String, Global, Ordering, Less, Equal, Greater, is_eq}
use Rattle.std.proofs.Common.{nat_cmp, string_bytes, string_cmp, Option, Some, None, refl, sym, ap, ◌∙◌, subst}
use Rattle.std.proofs.lemmas.Bool.{and_parts, false≢true, not-true}
use Rattle.std.proofs.lemmas.Cmp.{nat_list_cmp_total}
use Rattle.std.proofs.lemmas.Map.Lookups.{exact_bytes}
use Rattle.std.specs.Cmp.Lexicographic.{slice_cmp}
use Rattle.std.specs.List.{AllByRecursion}
use Rattle.std.specs.List.Sorted.{IsStrictlySortedBy}
use Rattle.std.specs.Map.{keys_of}
use Rattle.std.specs.Ordering.{match_ordering, ordering_reverse}
use Rattle.std.specs.BTreeMap.{insert_entry}
use Rattle.toml.specs.Data.{Data, table, Members, no_members, member, get_member, same_key}
use Rattle.toml.specs.declared.value.Value.{Value}
use Rattle.toml.specs.View.{view, members_view}
use Rattle.toml.proofs.Views.{Entry}
use Rattle.book_format.specs.Account.{AccountFields}
use Rattle.book_format.specs.Keys.{has_only}
use Rattle.book_format.specs.Put.{put_member, put_some, put_all}
use Rattle.book_format.specs.Rows.{written_table}
use Rattle.book_format.specs.Tables.{account_table}
use Rattle.book_format.specs.Written.{accounts_tree}

-- the view of the list that an ordering chooses is what it chooses among the views
members_view-match_ordering : (o : Ordering) (a b c : List Entry)
    → members_view (match_ordering o a b c) ≡ match_ordering o (members_view a) (members_view b) (members_view c)
members_view-match_ordering Less a b c = refl
members_view-match_ordering Equal a b c = refl
members_view-match_ordering Greater a b c = refl

-- inserting a value into a table's entries is putting it among their members
pub members_view-insert_entry : (es : List Entry) (k : String Global) (v : Value)
    → members_view (insert_entry string_cmp es k v) ≡ put_member (string_bytes k) (view v) (members_view es)
members_view-insert_entry [] k v = refl
members_view-insert_entry (e ∷ es) k v = members_view-match_ordering (string_cmp k e.0) _ _ _ ∙ rw (members_view-insert_entry es k v)

-- a key that is below all keys of a list is below the one in its middle
pub key_is_below_middle : {K X : Type 0} (cmp : K → K → Ordering) (key : K) (front : List (K × X)) (e : K × X) (more : List (K × X))
    → AllByRecursion (λ y. cmp key y ≡ Less) (keys_of (front ++ e ∷ more)) → cmp key e.0 ≡ Less
key_is_below_middle cmp key [] e more h = h.0
key_is_below_middle cmp key (x ∷ front) e more h = key_is_below_middle cmp key front e more h.1

-- an account whose name is above those before it goes last
pub put_account_goes_last : (done : List (List ℕ × AccountFields)) (e : List ℕ × AccountFields) (more : List (List ℕ × AccountFields))
    → IsStrictlySortedBy (slice_cmp nat_cmp) (keys_of (done ++ e ∷ more))
    → put_member e.0 (table (written_table account_table e.1)) (accounts_tree done) ≡ accounts_tree (done ++ e ∷ [])
unfolding IsStrictlySortedBy accounts_tree
put_account_goes_last [] e more h = refl
put_account_goes_last (first ∷ done) e more h =
    let above : slice_cmp nat_cmp e.0 first.0
    ≡ Greater =
    nat_list_cmp_total.antisymm e.0 first.0 ∙ ap ordering_reverse (key_is_below_middle (slice_cmp nat_cmp) first.0 done e more h.0) in
    rw above (ap (member first.0 (table (written_table account_table first.1))) (put_account_goes_last done e more h.1))

-- Look-ups.

-- if both sides are the same, an ordering that is not Equal chooses that side, whatever is in the middle
pub ordering_chooses_side : {X : Type 0} (o : Ordering) (side middle : X) → is_eq o ≡ false → match_ordering o side middle side ≡ side
ordering_chooses_side Less side middle h = refl
ordering_chooses_side Equal side middle h = absurd (false≢true (sym h))
ordering_chooses_side Greater side middle h = refl

-- an ordering that is its own reverse is Equal
own_reverse_is_equal : (o : Ordering) → o ≡ ordering_reverse o → o ≡ Equal
own_reverse_is_equal Less h = absurd (cc h)
own_reverse_is_equal Equal h = refl
own_reverse_is_equal Greater h = absurd (cc h)

-- a key is Equal to itself
key_equals_itself : (key : List ℕ) → slice_cmp nat_cmp key key ≡ Equal
key_equals_itself key = own_reverse_is_equal (slice_cmp nat_cmp key key) (nat_list_cmp_total.antisymm key key)

-- a look-up passes over a first member with another key
look_up_passes_member : (key other : List ℕ) (d : Data) (rest : Members) → same_key key other ≡ false
    → get_member key (member other d rest) ≡ get_member key rest
look_up_passes_member key other d rest differ = ordering_chooses_side (slice_cmp nat_cmp key other) (get_member key rest) (Some d) differ

-- a look-up of the key that was put finds the value
put_member_is_found : (key : List ℕ) (d : Data) (ms : Members) → get_member key (put_member key d ms) ≡ Some d
put_member_is_found key d no_members = rw (key_equals_itself key) refl
put_member_is_found key d (member k e rest) =
    elim (slice_cmp nat_cmp key k) as (λ o. slice_cmp nat_cmp key k ≡ o
    → get_member key (match_ordering o (member key d (member k e rest)) (member k d rest) (member k e (put_member key d rest))) ≡ Some d) [
      | Less ↦ λ is. rw (key_equals_itself key) refl
      | Equal ↦ λ is. rw is refl
      | Greater ↦ λ is. rw is (put_member_is_found key d rest)
    ] refl

-- a look-up of a key other than the one that was put finds what it found before
put_member_leaves_others : (key other : List ℕ) (d : Data) (ms : Members) → same_key key other ≡ false
    → get_member key (put_member other d ms) ≡ get_member key ms
put_member_leaves_others key other d no_members differ = look_up_passes_member key other d no_members differ
put_member_leaves_others key other d (member k e rest) differ =
    elim (slice_cmp nat_cmp other k) as (λ o. slice_cmp nat_cmp other k ≡ o
    → get_member key (match_ordering o (member other d (member k e rest)) (member k d rest) (member k e (put_member other d rest)))
    ≡ get_member key (member k e rest)) [
      | Less ↦ λ is. look_up_passes_member key other d (member k e rest) differ
      | Equal ↦ λ is.
          let same : other ≡ k = exact_bytes other k is in
          let far : same_key key k ≡ false = subst (λ l. same_key key l ≡ false) same differ in
          look_up_passes_member key k d rest far ∙ sym (look_up_passes_member key k e rest far)
      | Greater ↦ λ is. ap (λ o. match_ordering (slice_cmp nat_cmp key k) o (Some e) o) (put_member_leaves_others key other d rest differ)
    ] refl

-- a look-up of a key other than the one at which an optional value was put finds what it found before
put_some_leaves_others : (key other : List ℕ) (o : Option Data) (ms : Members) → same_key key other ≡ false
    → get_member key (put_some other o ms) ≡ get_member key ms
put_some_leaves_others key other None ms differ = refl
put_some_leaves_others key other (Some d) ms differ = put_member_leaves_others key other d ms differ

-- a list of keys, each with the value that is to be put there, if any
abbrev pub Entries : Type 0
Entries = List (List ℕ × Option Data)

-- the table has at each key what is to be there
abbrev pub HasAll : Entries → Members → Type 0
HasAll [] ms = Unit {0}
HasAll (e ∷ es) ms = (get_member e.0 ms ≡ e.1) × HasAll es ms

-- the table has none of the keys
abbrev pub HasNone : Entries → Members → Type 0
HasNone [] ms = Unit {0}
HasNone (e ∷ es) ms = (get_member e.0 ms ≡ None) × HasNone es ms

-- the key is none of the keys of these entries
abbrev pub is_new : List ℕ → Entries → Bool
is_new key [] = true
is_new key (e ∷ es) = not (same_key key e.0) && not (same_key e.0 key) && is_new key es

-- no key appears twice among these entries
abbrev pub are_distinct : Entries → Bool
are_distinct [] = true
are_distinct (e ∷ es) = is_new e.0 es && are_distinct es

-- a look-up of a key that none of the entries has finds the same after they are put
put_all_leaves_others : (key : List ℕ) (es : Entries) (ms : Members) → is_new key es ≡ true
    → get_member key (put_all es ms) ≡ get_member key ms
put_all_leaves_others key [] ms new = refl
put_all_leaves_others key (e ∷ es) ms new =
    let (here, others) = and_parts (not (same_key key e.0) && not (same_key e.0 key)) (is_new key es) new in
    let (one, two) = and_parts (not (same_key key e.0)) (not (same_key e.0 key)) here in
    put_all_leaves_others key es (put_some e.0 e.1 ms) others ∙ put_some_leaves_others key e.0 e.1 ms (not-true (same_key key e.0) one)

-- a table that has none of some keys has none of them after a value is put at another key
table_still_has_none : (key : List ℕ) (o : Option Data) (es : Entries) (ms : Members) → is_new key es ≡ true → HasNone es ms
    → HasNone es (put_some key o ms)
table_still_has_none key o [] ms new h = tt
table_still_has_none key o (e ∷ es) ms new h =
    let (here, others) = and_parts (not (same_key key e.0) && not (same_key e.0 key)) (is_new key es) new in
    let (one, two) = and_parts (not (same_key key e.0)) (not (same_key e.0 key)) here in
    (put_some_leaves_others e.0 key o ms (not-true (same_key e.0 key) two) ∙ h.0, table_still_has_none key o es ms others h.1)

-- a key that had nothing has, after an optional value is put there, this value, or still nothing
put_some_is_found : (key : List ℕ) (o : Option Data) (ms : Members) → get_member key ms ≡ None → get_member key (put_some key o ms) ≡ o
put_some_is_found key None ms h = h
put_some_is_found key (Some d) ms h = put_member_is_found key d ms

-- what was put into a table is there
pub put_all_is_found : (es : Entries) (ms : Members) → are_distinct es ≡ true → HasNone es ms → HasAll es (put_all es ms)
put_all_is_found [] ms new none = tt
put_all_is_found (e ∷ es) ms new none =
    let (here, others) = and_parts (is_new e.0 es) (are_distinct es) new in (
      put_all_leaves_others e.0 es (put_some e.0 e.1 ms) here ∙ put_some_is_found e.0 e.1 ms none.0,
      put_all_is_found es (put_some e.0 e.1 ms) others (table_still_has_none e.0 e.1 es ms here none.1),
    )

-- an empty table has none of the keys
pub empty_table_has_none : (es : Entries) → HasNone es no_members
empty_table_has_none [] = tt
empty_table_has_none (e ∷ es) = (refl, empty_table_has_none es)

-- Known keys.

-- each key passes the test
abbrev pub all_known : (List ℕ → Bool) → Entries → Bool
all_known test [] = true
all_known test (e ∷ es) = test e.0 && all_known test es

-- a table of known keys has only known keys after a value is put at a known one
put_member_keeps_known : (test : List ℕ → Bool) (key : List ℕ) (d : Data) (ms : Members) → test key ≡ true → has_only test ms ≡ true
    → has_only test (put_member key d ms) ≡ true
unfolding has_only
put_member_keeps_known test key d no_members is h = rw is refl
put_member_keeps_known test key d (member k e rest) is h =
    elim (slice_cmp nat_cmp key k) as (λ o.
    has_only test (match_ordering o (member key d (member k e rest)) (member k d rest) (member k e (put_member key d rest))) ≡ true) [
      | Less ↦ rw is h
      | Equal ↦ h
      | Greater ↦
          let (here, others) = and_parts (test k) (has_only test rest) h in rw here (put_member_keeps_known test key d rest is others)
    ]

-- a table of known keys has only known keys after an optional value, or none, is put at a known one
put_some_keeps_known : (test : List ℕ → Bool) (key : List ℕ) (o : Option Data) (ms : Members) → test key ≡ true → has_only test ms ≡ true
    → has_only test (put_some key o ms) ≡ true
put_some_keeps_known test key None ms is h = h
put_some_keeps_known test key (Some d) ms is h = put_member_keeps_known test key d ms is h

-- after entries with known keys are put into a table of known keys, all its keys are known
pub put_all_keeps_known : (test : List ℕ → Bool) (es : Entries) (ms : Members) → all_known test es ≡ true → has_only test ms ≡ true
    → has_only test (put_all es ms) ≡ true
put_all_keeps_known test [] ms known h = h
put_all_keeps_known test (e ∷ es) ms known h =
    let (here, others) = and_parts (test e.0) (all_known test es) known in
    put_all_keeps_known test es (put_some e.0 e.1 ms) others (put_some_keeps_known test e.0 e.1 ms here h)
