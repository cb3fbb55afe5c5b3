-- The parts between the commas of a message, and the classes of these parts (RFC 5802, section 7). No value contains a comma, so
-- there is only one way to cut a message.
use Rattle.std.specs.Prelude.{ℕ, ◌≡◌, ◌≤◌, ◌==◌, nat_le, Bool, false, ◌&&◌, ◌||◌, IsTrue, List, [], ◌∷◌, ◌++◌, length, codes, decimal}
use Rattle.std.specs.List.{list_all, list_any, slice_split, join_with_byte, AllByRecursion}
use Rattle.std.specs.Str.{byte}
use Rattle.std.specs.declared.option.Option.{Option}
use Rattle.std.specs.declared.option.Option.TheVariants.{None, Some}
use Rattle.scram_text.specs.Class.{is_comma, is_letter, is_cb_char}
use Rattle.scram_text.specs.Name.{LacksComma}
use Rattle.scram_text.specs.Base64Field.{base64, IsField}
use Rattle.scram_text.specs.Limits.{max_iteration_count}

-- the parts of a text: one more than it has commas, so that "a,,b" has three and "" has one
abbrev pub parts : List ℕ → List (List ℕ)
parts text = slice_split is_comma text

-- parts, joined by commas
abbrev pub joined : List (List ℕ) → List ℕ
joined pieces = join_with_byte (byte ",") pieces

-- the parts of a text if there is one, else none
abbrev pub parts_of_some : Option (List ℕ) → List (List ℕ)
parts_of_some None = []
parts_of_some (Some text) = parts text

-- the part begins with this letter and `=`
abbrev pub is_named : (letter : ℕ) → (part : List ℕ) → Bool
is_named letter [] = false
is_named letter (a ∷ []) = false
is_named letter (a ∷ b ∷ value) = (a == letter) && (b == byte "=")

-- the part is this letter, `=` and a value of the class
abbrev pub IsAttrVal : (letter : ℕ) → (class : List ℕ → Type 0) → (part : List ℕ) → Type 0
IsAttrVal letter class part = (value : List ℕ) × (part ≡ letter ∷ byte "=" ∷ value) × class value

-- value = 1*value-char. That the characters are UTF-8 without NUL is asked of the whole text (IsUtf8Text).
pub record IsValue (value : List ℕ) : Type 0 where
  pub at_least : 1 ≤ length value
  pub no_comma : LacksComma value

-- cb-name = 1*(ALPHA / DIGIT / "." / "-")
abbrev pub is_cb_name : List ℕ → Bool
is_cb_name name = nat_le 1 (length name) && list_all is_cb_char name

-- gs2-cbind-flag = "n" / "y" / "p=" cb-name
abbrev pub is_flag : List ℕ → Bool
is_flag [] = false
is_flag (c ∷ []) = (c == byte "n") || (c == byte "y")
is_flag (a ∷ b ∷ name) = (a == byte "p") && (b == byte "=") && is_cb_name name

-- the part that names whom to act as (authzid): "a=" and the saslname, or nothing
abbrev pub authzid_text : Option (List ℕ) → List ℕ
authzid_text None = []
authzid_text (Some spelled) = codes "a=" ++ spelled

-- the part of a mandatory extension, "m=" and its value, if there is one
abbrev pub mext_parts : Option (List ℕ) → List (List ℕ)
mext_parts None = []
mext_parts (Some value) = (codes "m=" ++ value) ∷ []

-- an iteration count: posit-number = %x31-39 *DIGIT, here at most 4294967295
pub record IsCount (count : ℕ) : Type 0 where
  pub at_least : 1 ≤ count
  pub at_most : count ≤ max_iteration_count

-- the value is the decimal text of a count
abbrev pub SpellsCount : List ℕ → Type 0
SpellsCount value = (count : ℕ) × (value ≡ decimal count) × IsCount count

-- the value is the base64 of 1 to `most` bytes
abbrev pub SpellsField : (most : ℕ) → (value : List ℕ) → Type 0
SpellsField most value = (bytes : List ℕ) × (value ≡ base64 bytes) × IsField most bytes

-- an extension: attr-val = ALPHA "=" value
abbrev pub IsExtension : (part : List ℕ) → Type 0
IsExtension part = (letter : ℕ) × IsTrue (is_letter letter) × IsAttrVal letter IsValue part

-- extensions = attr-val *("," attr-val), or none
abbrev pub AreExtensions : List (List ℕ) → Type 0
AreExtensions extensions = AllByRecursion IsExtension extensions

-- one of the extensions is mandatory: it is named "m"
abbrev pub have_mandatory : List (List ℕ) → Bool
have_mandatory extensions = list_any (is_named (byte "m")) extensions
