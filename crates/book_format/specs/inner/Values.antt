-- How values are read, one function for each type of values.
use Rattle.std.specs.Prelude.{ℕ, ◌&&◌, nat_le, ℤ, pos, negsuc, nat_abs, Bool, if◌then◌else◌, List, [], ◌∷◌, length, ok_or, Result, Ok, Err}
use Rattle.hex.specs.Hex.{decode_of}
use Rattle.toml.specs.Data.{Data, string, integer, array, Items, no_items, item, Members, as_str, as_table}
use Rattle.otp_core.specs.Hash.{hash_named}
use Rattle.otp_core.specs.Ranges.{bounds_of}
use Rattle.otp_core.specs.declared.fault.Setting.{Setting}
use Rattle.otp_core.specs.declared.hash.OtpHash.{OtpHash}
use Rattle.book_format.specs.Account.{max_names}
use Rattle.book_format.specs.Names.{is_plain_name, are_texts, item_count}
use Rattle.book_format.specs.inner.Steps.{◌>>=◌, pass_or}
use Rattle.book_format.specs.declared.fault.BookWhy.{BookWhy}
use Rattle.book_format.specs.declared.fault.BookWhy.TheVariants.{Key, Name, Token}

-- the value if it passes a test, else the fault
abbrev pub value_or : {V : Type 0} → (fits : Bool) → V → BookWhy → Result V BookWhy
value_or fits v why = if fits then Ok v else Err why

-- a whole number from `least` to `most`
unfoldable pub number_in : (why : BookWhy) → (least most : ℕ) → Data → Result ℕ BookWhy
number_in why least most (integer (pos n)) = value_or (nat_le least n && nat_le n most) n why
number_in why least most (integer (negsuc n)) = Err why
number_in why least most d = Err Key

-- a setting of a token, within its bounds
abbrev pub setting_in : Setting → Data → Result ℕ BookWhy
setting_in setting = number_in Token (bounds_of setting).0 (bounds_of setting).1

-- a whole number at most `most` above or below 0
unfoldable pub signed_in : (why : BookWhy) → (most : ℕ) → Data → Result ℤ BookWhy
signed_in why most (integer z) = value_or (nat_le (nat_abs z) most) z why
signed_in why most d = Err Key

-- bytes that were decoded, `least` to `most` of them
abbrev pub decoded : {E : Type 0} → (why : BookWhy) → (least most : ℕ) → Result (List ℕ) E → Result (List ℕ) BookWhy
decoded why least most (Ok bytes) = value_or (nat_le least (length bytes) && nat_le (length bytes) most) bytes why
decoded why least most (Err e) = Err why

-- the hexadecimal text, in either case, of `least` to `most` bytes
unfoldable pub bytes_in : (why : BookWhy) → (least most : ℕ) → Data → Result (List ℕ) BookWhy
bytes_in why least most (string text) = decoded why least most (decode_of text)
bytes_in why least most d = Err Key

-- any text
unfoldable pub text_in : Data → Result (List ℕ) BookWhy
text_in d = ok_or (as_str d) Key

-- the hash function with this name
unfoldable pub hash_in : Data → Result OtpHash BookWhy
hash_in d = text_in d >>= λ name. ok_or (hash_named name) Token

-- the name, if it is plain
abbrev pub plain_name_of : List ℕ → Result (List ℕ) BookWhy
plain_name_of name = value_or (is_plain_name name) name Name

-- the names in a list of texts
unfoldable pub names_in : Items → Result (List (List ℕ)) BookWhy
names_in no_items = Ok []
names_in (item d ds) = do
  text ← text_in d
  name ← plain_name_of text
  names ← names_in ds
  Ok (name ∷ names)

-- the names of a list. First each item must be a text, then there may be at most max_names, then each must be a plain name.
unfoldable pub names_of : Items → Result (List (List ℕ)) BookWhy
names_of list = do
  typed ← pass_or (are_texts list) Key
  few ← pass_or (nat_le (item_count list) max_names) Name
  names_in list

-- the list of the names that an account may act as
unfoldable pub name_list_in : Data → Result (List (List ℕ)) BookWhy
name_list_in (array list) = names_of list
name_list_in d = Err Key

-- the members of a table
abbrev pub table_of : Data → Result Members BookWhy
table_of d = ok_or (as_table d) Key
