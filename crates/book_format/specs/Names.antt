-- The lists of names that an account may act as.
use Rattle.std.specs.Prelude.{ℕ, ◌≡◌, ◌≤◌, ◌&&◌, ◌+◌, nat_le, Bool, true, false, List, length, map, is_some}
use Rattle.std.specs.List.{AllByRecursion, list_all}
use Rattle.toml.specs.Data.{Data, string, array, Items, no_items, item, as_str}
use Rattle.toml.specs.View.{items_of}
use Rattle.scram_text.specs.Limits.{max_name_len}
use Rattle.scram_text.specs.Class.{is_plain, IsPlainName}
use Rattle.book_format.specs.Account.{max_names}

-- each of these is a plain name
abbrev pub AreNames : List (List ℕ) → Type 0
AreNames names = AllByRecursion IsPlainName names

-- the TOML array of these names, as in `["root"]`
abbrev pub names_tree : List (List ℕ) → Data
names_tree names = array (items_of (map string names))

-- the TOML value is the array of these names, of which there are at most 16, each a plain name
pub record IsNameList (d : Data) (names : List (List ℕ)) : Type 0 where
  pub there : d ≡ names_tree names
  pub plain : AreNames names
  pub few : length names ≤ max_names

-- a plain name, as a test
abbrev pub is_plain_name : List ℕ → Bool
is_plain_name name = nat_le 1 (length name) && nat_le (length name) max_name_len && list_all is_plain name

-- the value is a text that is a plain name
abbrev pub is_name : Data → Bool
is_name (string text) = is_plain_name text
is_name d = false

-- each value of a list is a text
abbrev pub are_texts : Items → Bool
are_texts no_items = true
are_texts (item d ds) = is_some (as_str d) && are_texts ds

-- the number of values of a list
abbrev pub item_count : Items → ℕ
item_count no_items = 0
item_count (item d ds) = item_count ds + 1

-- each value of a list is a plain name
abbrev pub are_names : Items → Bool
are_names no_items = true
are_names (item d ds) = is_name d && are_names ds
