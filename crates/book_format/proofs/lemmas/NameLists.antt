-- Lists of names as a type of values: lists of plain names are read, if they are not too long; any other value is refused for the first
-- demand that it does not meet.
use Rattle.std.proofs.Common.{◌≡◌, ◌≤◌, ◌&&◌, nat_le, le-leb, ℕ, List, [], ◌∷◌, length, map, Bool, true, false, ok_or, Result, Ok, refl, ap, subst}
use Rattle.std.proofs.Common.{◌∙◌, arith}
use Rattle.std.proofs.lemmas.Bool.{and_parts}
use Rattle.std.specs.List.{list_all}
use Rattle.toml.specs.Data.{Data, string, array, Items, no_items, item, as_str}
use Rattle.toml.specs.View.{items_of}
use Rattle.scram_text.specs.Class.{IsPlainName, is_plain}
use Rattle.book_format.specs.Account.{max_names}
use Rattle.book_format.specs.inner.Values.{value_or, text_in, plain_name_of, names_in, names_of, name_list_in}
use Rattle.book_format.specs.Names.{is_plain_name, are_names, are_texts, item_count, AreNames, IsNameList}
use Rattle.book_format.specs.ValueTypes.{name_list_type}
use Rattle.book_format.specs.Demands.{must}
use Rattle.book_format.specs.inner.Steps.{◌>>=◌, pass_or}
use Rattle.book_format.specs.declared.fault.BookWhy.{BookWhy}
use Rattle.book_format.specs.declared.fault.BookWhy.TheVariants.{Key, Name}
use Rattle.book_format.proofs.lemmas.Demands.{FollowsDemands, test_follows, making_keeps_faults}
use Rattle.book_format.proofs.lemmas.Steps.{each_step_gives_value, test_was_passed, same_ok_has_same_value}
use Rattle.book_format.proofs.lemmas.Rows.{IsExactType}
use Rattle.book_format.proofs.lemmas.PassedTests.{value_passed_test, number_is_within, number_is_at_most}
use Rattle.book_format.proofs.lemmas.ValueTypes.{read_text_stands}

-- the list of some names is a list of texts
written_names_are_texts : (names : List (List ℕ)) → are_texts (items_of (map string names)) ≡ true
written_names_are_texts [] = refl
written_names_are_texts (name ∷ names) = written_names_are_texts names

-- the list of some names has as many items as there are names
written_names_keep_count : (names : List (List ℕ)) → item_count (items_of (map string names)) ≡ length names
written_names_keep_count [] = refl
written_names_keep_count (name ∷ names) =
    let rest = written_names_keep_count names in
    omega (arith, rest)

-- a plain name is read as itself
pub name_is_read : (name : List ℕ) → IsPlainName name → plain_name_of name ≡ Ok name
name_is_read name h = rw (le-leb 1 (length name) h.at_least, le-leb (length name) 255 h.at_most, h.each) refl

-- the list of some plain names is read as these
names_are_read : (names : List (List ℕ)) → AreNames names → names_in (items_of (map string names)) ≡ Ok names
unfolding names_in text_in
names_are_read [] h = refl
names_are_read (name ∷ names) h = rw (name_is_read name h.0, names_are_read names h.1) refl

-- a text that is read as a plain name is that name, and it is plain
pub read_name_stands : (text name : List ℕ) → plain_name_of text ≡ Ok name → (text ≡ name) × IsPlainName name
read_name_stands text name h =
    let (fits, same) = value_passed_test (nat_le 1 (length text) && nat_le (length text) 255 && list_all is_plain text) text name Name h in
    let (length_fits, each) = and_parts (nat_le 1 (length text) && nat_le (length text) 255) (list_all is_plain text) fits in
    let (least, most) = number_is_within 1 (length text) 255 length_fits in
    (same, subst IsPlainName same (record { at_least = least; at_most = most; each = each }))

-- two items are the same if their first texts and their rests are
items_are_same : (d : Data) (ds : Items) (text name : List ℕ) (rest : List (List ℕ)) → d ≡ string text → text ≡ name
    → ds ≡ items_of (map string rest) → item d ds ≡ items_of (map string (name ∷ rest))
items_are_same d ds text name rest is same others = rw (is, same, others) refl

-- if a list is read as names, they are plain, and it is the list of them
read_names_stand : (list : Items) (names : List (List ℕ)) → names_in list ≡ Ok names → (list ≡ items_of (map string names)) × AreNames names
unfolding names_in text_in
read_names_stand no_items names h = subst (λ ns. (no_items ≡ items_of (map string ns)) × AreNames ns) (same_ok_has_same_value [] names h)
    (refl, tt)
read_names_stand (item d ds) names h =
    let (text, said, h0) = each_step_gives_value (ok_or (as_str d) Key) _ names h in
    let (name, plain, h1) = each_step_gives_value (plain_name_of text) _ names h0 in
    let (rest, more, h2) = each_step_gives_value (names_in ds) _ names h1 in
    let (same, is_plain_name) = read_name_stands text name plain in
    let (others, plain_others) = read_names_stand ds rest more in
    subst (λ ns. (item d ds ≡ items_of (map string ns)) × AreNames ns) (same_ok_has_same_value (name ∷ rest) names h2)
    (items_are_same d ds text name rest (read_text_stands d text said) same others, (is_plain_name, plain_others))

-- if a list is read as a list of names, it is one, and of these names
read_list_stands : (list : Items) (names : List (List ℕ)) → names_of list ≡ Ok names → IsNameList (array list) names
unfolding names_of
read_list_stands list names h =
    let (u, typed, h0) = each_step_gives_value (pass_or (are_texts list) Key) _ names h in
    let (v, few, h1) = each_step_gives_value (pass_or (nat_le (item_count list) max_names) Name) _ names h0 in
    let (same, plain) = read_names_stand list names h1 in
    let count : item_count list ≡ length names = ap item_count same ∙ written_names_keep_count names in
    let most : item_count list ≤ max_names = number_is_at_most (item_count list) max_names (test_was_passed _ Name v few) in
    record { there = ap array same; plain = plain; few = omega (arith, count, most) }

-- if a value is read as a list of names, it is one, and of these names
read_name_list_stands : (d : Data) (names : List (List ℕ)) → name_list_in d ≡ Ok names → IsNameList d names
unfolding name_list_in
read_name_list_stands (array list) names h = read_list_stands list names h
read_name_list_stands d names h = absurd (cc h)

-- the list of some plain names, not too many, is read as these names
name_list_is_read : (d : Data) (names : List (List ℕ)) → IsNameList d names → name_list_in d ≡ Ok names
unfolding name_list_in names_of
name_list_is_read d names h =
    rw (
      h.there,
      written_names_are_texts names,
      written_names_keep_count names,
      le-leb (length names) max_names h.few,
      names_are_read names
          h.plain,
    ) refl

-- if the names after one follow the demand that they be plain, so do these with the one before them
name_follows : (plain others : Bool) (text : List ℕ) (rest : Result (List (List ℕ)) BookWhy) → FollowsDemands (must others Name ∷ []) rest
    → FollowsDemands (must (plain && others) Name ∷ []) (value_or plain text Name >>= λ name. rest >>= λ names. Ok (name ∷ names))
name_follows true others text rest h = h ∙ making_keeps_faults rest (λ names. text ∷ names)
name_follows false others text rest h = refl

-- reading the names of a list of texts follows the demand that they be plain
names_follow : (list : Items) → are_texts list ≡ true → FollowsDemands (must (are_names list) Name ∷ []) (names_in list)
unfolding names_in text_in
names_follow no_items typed = refl
names_follow (item (string text) ds) typed =
    name_follows (is_plain_name text) (are_names ds) text (names_in ds) (names_follow ds typed)
names_follow (item d ds) typed = absurd (cc typed)

-- reading names after the test that they are few enough follows the demand for both
few_names_follow : (few plain : Bool) (names : Result (List (List ℕ)) BookWhy) → FollowsDemands (must plain Name ∷ []) names
    → FollowsDemands (must (few && plain) Name ∷ []) (pass_or few Name >>= λ u. names)
few_names_follow true plain names h = h
few_names_follow false plain names h = refl

-- reading a list of names follows its demands
name_list_follows : (d : Data) → FollowsDemands (name_list_type.demands d) (name_list_in d)
unfolding name_list_in names_of
name_list_follows (array list) = test_follows (are_texts list) Key
    (must (nat_le (item_count list) max_names && are_names list) Name ∷ [])
    (λ u. pass_or (nat_le (item_count list) max_names) Name >>= λ u. names_in list)
    (λ typed. few_names_follow (nat_le (item_count list) max_names) (are_names list) (names_in list) (names_follow list typed))
name_list_follows d = refl

-- a value is read as a list of names if and only if it is one
pub name_list_is_exact : IsExactType name_list_type name_list_in
name_list_is_exact = record { found = read_name_list_stands; held = name_list_is_read; follows = name_list_follows }
