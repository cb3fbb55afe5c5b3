-- The types of values of the format, each with its range: whole numbers, bytes, hash functions, names, tables. The fault of a
-- value of another TOML type comes before that of a value out of its range.
use Rattle.std.specs.Prelude.{ℕ, ◌≡◌, ◌≤◌, ◌&&◌, nat_le, ℤ, pos, negsuc, nat_abs, Bool, false, List, [], ◌∷◌, length, is_some, Result, Ok, Err}
use Rattle.hex.specs.Hex.{decode_of, encode_lower}
use Rattle.toml.specs.Data.{Data, string, integer, table, Members, as_array, as_integer, as_str, as_table}
use Rattle.otp_core.specs.Hash.{hash_name, hash_named}
use Rattle.otp_core.specs.Ranges.{bounds_of}
use Rattle.otp_core.specs.declared.fault.Setting.{Setting}
use Rattle.otp_core.specs.declared.hash.OtpHash.{OtpHash}
use Rattle.book_format.specs.Account.{max_names}
use Rattle.book_format.specs.Names.{IsNameList, names_tree, are_texts, item_count, are_names}
use Rattle.book_format.specs.Demands.{must, required}
use Rattle.book_format.specs.Rows.{ValueType}
use Rattle.book_format.specs.declared.fault.BookWhy.{BookWhy}
use Rattle.book_format.specs.declared.fault.BookWhy.TheVariants.{Key, Name, Token}

-- the value is the whole number n, which is from `least` to `most`
pub record IsNumber (least most : ℕ) (d : Data) (n : ℕ) : Type 0 where
  pub there : d ≡ integer (pos n)
  pub at_least : least ≤ n
  pub at_most : n ≤ most

-- a whole number is from `least` to `most`
abbrev pub is_within : (least most : ℕ) → ℤ → Bool
is_within least most (pos n) = nat_le least n && nat_le n most
is_within least most (negsuc n) = false

-- whole numbers from `least` to `most`; `why` is the fault of any other
abbrev pub number_type : (why : BookWhy) → (least most : ℕ) → ValueType ℕ
number_type why least most = record {
  Is = IsNumber least most;
  demands = λ d. required Key (λ z. must (is_within least most z) why ∷ []) (as_integer d);
  write = λ n. integer (pos n);
}

-- the whole numbers that a setting of a token may be
abbrev pub setting_type : Setting → ValueType ℕ
setting_type setting = number_type Token (bounds_of setting).0 (bounds_of setting).1

-- the value is the whole number z, which is at most `most` above or below 0
pub record IsSigned (most : ℕ) (d : Data) (z : ℤ) : Type 0 where
  pub there : d ≡ integer z
  pub at_most : nat_abs z ≤ most

-- whole numbers at most `most` above or below 0; `why` is the fault of any other
abbrev pub signed_type : (why : BookWhy) → (most : ℕ) → ValueType ℤ
signed_type why most = record {
  Is = IsSigned most;
  demands = λ d. required Key (λ z. must (nat_le (nat_abs z) most) why ∷ []) (as_integer d);
  write = integer;
}

-- the value is the hexadecimal text, in either case, of these bytes, of which there are `least` to `most`
pub record IsHexText (least most : ℕ) (d : Data) (bytes : List ℕ) : Type 0 where
  pub text : List ℕ
  pub there : d ≡ string text
  pub spelled : decode_of text ≡ Ok bytes
  pub at_least : least ≤ length bytes
  pub at_most : length bytes ≤ most

-- the decoding succeeded, and gave `least` to `most` bytes
abbrev pub are_decoded : {E : Type 0} → (least most : ℕ) → Result (List ℕ) E → Bool
are_decoded least most (Ok bytes) = nat_le least (length bytes) && nat_le (length bytes) most
are_decoded least most (Err e) = false

-- `least` to `most` bytes, as hexadecimal text: read in either case, and written in lower case. `why` is the fault of any other text.
abbrev pub bytes_type : (why : BookWhy) → (least most : ℕ) → ValueType (List ℕ)
bytes_type why least most = record {
  Is = IsHexText least most;
  demands = λ d. required Key (λ text. must (are_decoded least most (decode_of text)) why ∷ []) (as_str d);
  write = λ bs. string (encode_lower bs);
}

-- hash functions, as texts: their names
abbrev pub hash_type : ValueType OtpHash
hash_type = record {
  Is = λ d h. d ≡ string (hash_name h);
  demands = λ d. required Key (λ name. must (is_some (hash_named name)) Token ∷ []) (as_str d);
  write = λ h. string (hash_name h);
}

-- lists of names that an account may act as: arrays of at most 16 texts, each a plain name
abbrev pub name_list_type : ValueType (List (List ℕ))
name_list_type = record {
  Is = IsNameList;
  demands = λ d. required Key
      (λ list. must (are_texts list) Key ∷ must (nat_le (item_count list) max_names && are_names list) Name ∷ []) (as_array d);
  write = names_tree;
}

-- tables with any keys
abbrev pub any_table_type : ValueType Members
any_table_type = record {
  Is = λ d ms. d ≡ table ms;
  demands = λ d. must (is_some (as_table d)) Key ∷ [];
  write = table;
}
