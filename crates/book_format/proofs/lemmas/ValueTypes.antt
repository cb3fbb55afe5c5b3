-- Whole numbers, bytes, hash functions and tables as types of values: each reads its own values, in their range; any other is
-- refused for the first demand that it does not meet.
use Rattle.std.proofs.Common.{◌≡◌, ◌≤◌, ◌&&◌, nat_le, le-leb, ℤ, pos, negsuc, nat_abs, ℕ, List, [], ◌∷◌, length, true, Some, is_some, ok_or, Result}
use Rattle.std.proofs.Common.{Ok, Err, refl, ap, subst, ◌∙◌, inl, inr}
use Rattle.std.proofs.lemmas.Bool.{cases_Bool}
use Rattle.std.proofs.lemmas.Slice.Eq.{bytes_eq-Decides}
use Rattle.std.specs.Str.{bytes_eq}
use Rattle.hex.specs.Hex.{decode_of, encode_lower}
use Rattle.toml.specs.Data.{Data, string, integer, as_str, as_table}
use Rattle.otp_core.specs.Hash.{hash_name, hash_named}
use Rattle.otp_core.specs.declared.hash.OtpHash.{OtpHash}
use Rattle.otp_core.specs.declared.hash.OtpHash.TheVariants.{Sha1, Sha256, Sha512}
use Rattle.book_format.specs.inner.Values.{number_in, signed_in, decoded, bytes_in, text_in, hash_in, table_of}
use Rattle.book_format.specs.ValueTypes.{IsNumber, number_type, IsSigned, signed_type, IsHexText, are_decoded, bytes_type, hash_type, any_table_type}
use Rattle.book_format.specs.Demands.{must}
use Rattle.book_format.specs.declared.fault.BookWhy.{BookWhy}
use Rattle.book_format.specs.declared.fault.BookWhy.TheVariants.{Key, Token}
use Rattle.book_format.proofs.lemmas.Demands.{FollowsDemands, required_follows, presence_follows}
use Rattle.book_format.proofs.lemmas.Steps.{each_step_gives_value, option_holds_value, same_ok_has_same_value}
use Rattle.book_format.proofs.lemmas.Rows.{IsExactType, read_members_stand}
use Rattle.book_format.proofs.lemmas.PassedTests.{value_passed_test, bounds_are_passed, number_is_within, number_is_at_most, value_or_follows}

module _ (why : BookWhy) (least most : ℕ) where
  -- if a value is read as a whole number, it is that number, in its range
  read_number_stands : (d : Data) (n : ℕ) → number_in why least most d ≡ Ok n → IsNumber least most d n
  unfolding number_in
  read_number_stands (integer (pos m)) n h =
      let (fits, same) = value_passed_test (nat_le least m && nat_le m most) m n why h in
      let (enough, few) = number_is_within least m most fits in
      subst (λ k. IsNumber least most (integer (pos m)) k) same (record { there = refl; at_least = enough; at_most = few })
  read_number_stands (integer (negsuc m)) n h = absurd (cc h)
  read_number_stands d n h = absurd (cc h)

  -- a whole number in its range is read as itself
  number_is_read : (d : Data) (n : ℕ) → IsNumber least most d n → number_in why least most d ≡ Ok n
  unfolding number_in
  number_is_read d n h = rw (h.there, bounds_are_passed least n most h.at_least h.at_most) refl

  -- reading a whole number follows the demands of its type
  number_follows : (d : Data) → FollowsDemands ((number_type why least most).demands d) (number_in why least most d)
  unfolding number_in
  number_follows (integer (pos n)) = value_or_follows (nat_le least n && nat_le n most) n why
  number_follows (integer (negsuc n)) = refl
  number_follows d = refl

  -- whole numbers in a range are read exactly
  pub number_is_exact : IsExactType (number_type why least most) (number_in why least most)
  number_is_exact = record { found = read_number_stands; held = number_is_read; follows = number_follows }

-- a number in its range is that of the value that it is written as
pub written_number_stands : (least most n : ℕ) → least ≤ n → n ≤ most → IsNumber least most (integer (pos n)) n
written_number_stands least most n enough few = record { there = refl; at_least = enough; at_most = few }

module _ (why : BookWhy) (most : ℕ) where
  -- if a value is read as a signed number, it is that number, in its range
  read_signed_stands : (d : Data) (z : ℤ) → signed_in why most d ≡ Ok z → IsSigned most d z
  unfolding signed_in
  read_signed_stands (integer y) z h =
      let (fits, same) = value_passed_test (nat_le (nat_abs y) most) y z why h in
      subst (λ k. IsSigned most (integer y) k) same (record { there = refl; at_most = number_is_at_most (nat_abs y) most fits })
  read_signed_stands d z h = absurd (cc h)

  -- a signed number in its range is read as itself
  signed_is_read : (d : Data) (z : ℤ) → IsSigned most d z → signed_in why most d ≡ Ok z
  unfolding signed_in
  signed_is_read d z h = rw (h.there, le-leb (nat_abs z) most h.at_most) refl

  -- reading a signed number follows the demands of its type
  signed_follows : (d : Data) → FollowsDemands ((signed_type why most).demands d) (signed_in why most d)
  unfolding signed_in
  signed_follows (integer z) = value_or_follows (nat_le (nat_abs z) most) z why
  signed_follows d = refl

  -- signed numbers in a range are read exactly
  pub signed_is_exact : IsExactType (signed_type why most) (signed_in why most)
  signed_is_exact = record { found = read_signed_stands; held = signed_is_read; follows = signed_follows }

module _ (why : BookWhy) (least most : ℕ) where
  -- if a value is read as bytes, it is their hexadecimal text, and they are as many as there may be
  read_bytes_stand : (d : Data) (bytes : List ℕ) → bytes_in why least most d ≡ Ok bytes → IsHexText least most d bytes
  unfolding bytes_in
  read_bytes_stand (string text) bytes h =
      let (value, enough, few) = decoded_ok (decode_of text) bytes h in
      record { text = text; there = refl; spelled = value; at_least = enough; at_most = few }
    where
      decoded_ok : {E : Type 0} (r : Result (List ℕ) E) (bytes : List ℕ) → decoded why least most r ≡ Ok bytes
          → (r ≡ Ok bytes) × (least ≤ length bytes) × (length bytes ≤ most)
      decoded_ok (Ok bs) bytes h =
          let (fits, same) = value_passed_test (nat_le least (length bs) && nat_le (length bs) most) bs bytes why h in
          let (enough, few) = number_is_within least (length bs) most fits in
          (ap Ok same, subst (λ k. least ≤ length k) same enough, subst (λ k. length k ≤ most) same few)
      decoded_ok (Err e) bytes h = absurd (cc h)
  read_bytes_stand d bytes h = absurd (cc h)

  -- a hexadecimal text of as many bytes as there may be is read as these bytes
  bytes_are_read : (d : Data) (bytes : List ℕ) → IsHexText least most d bytes → bytes_in why least most d ≡ Ok bytes
  unfolding bytes_in
  bytes_are_read d bytes h = rw (h.there, h.spelled, bounds_are_passed least (length bytes) most h.at_least h.at_most) refl

  -- reading bytes follows the demands of their type
  bytes_follow : (d : Data) → FollowsDemands ((bytes_type why least most).demands d) (bytes_in why least most d)
  unfolding bytes_in
  bytes_follow (string text) = decoded_follows (decode_of text)
    where
      decoded_follows : {E : Type 0} (r : Result (List ℕ) E)
          → FollowsDemands (must (are_decoded least most r) why ∷ []) (decoded why least most r)
      decoded_follows (Ok bs) = value_or_follows (nat_le least (length bs) && nat_le (length bs) most) bs why
      decoded_follows (Err e) = refl
  bytes_follow d = refl

  -- so many bytes in hexadecimal are read exactly
  pub bytes_are_exact : IsExactType (bytes_type why least most) (bytes_in why least most)
  bytes_are_exact = record { found = read_bytes_stand; held = bytes_are_read; follows = bytes_follow }

-- the hexadecimal text of the bytes gives them back
abbrev pub ComesBack : List ℕ → Type 0
ComesBack bytes = decode_of (encode_lower bytes) ≡ Ok bytes

-- bytes whose hexadecimal text gives them back, as many as there may be, are those of that text
pub written_bytes_stand : (least most : ℕ) (bytes : List ℕ) → ComesBack bytes → least ≤ length bytes → length bytes ≤ most
    → IsHexText least most (string (encode_lower bytes)) bytes
written_bytes_stand least most bytes back enough few =
    record { text = encode_lower bytes; there = refl; spelled = back; at_least = enough; at_most = few }

-- a value that is read as a text is that text
pub read_text_stands : (d : Data) (t : List ℕ) → ok_or (as_str d) Key ≡ Ok t → d ≡ string t
read_text_stands (string s) t h = ap string (same_ok_has_same_value s t h)
read_text_stands d t h = absurd (cc h)

-- the name of a hash function is read as this function
hash_name_is_read : (hash : OtpHash) → hash_in (string (hash_name hash)) ≡ Ok hash
unfolding hash_in text_in
hash_name_is_read Sha1 = refl
hash_name_is_read Sha256 = refl
hash_name_is_read Sha512 = refl

-- a name that names a hash function is the name of this function
named_hash_has_name : (name : List ℕ) (hash : OtpHash) → hash_named name ≡ Some hash → name ≡ hash_name hash
named_hash_has_name name hash h = elim (cases_Bool (bytes_eq name (hash_name Sha1))) [
  | inl is ↦ named Sha1 is (rw is at h)
  | inr not_sha1 ↦ elim (cases_Bool (bytes_eq name (hash_name Sha256))) [
    | inl is ↦ named Sha256 is (rw (not_sha1, is) at h)
    | inr not_sha256 ↦ elim (cases_Bool (bytes_eq name (hash_name Sha512))) [
      | inl is ↦ named Sha512 is (rw (not_sha1, not_sha256, is) at h)
      | inr not_sha512 ↦
          let none = rw (not_sha1, not_sha256, not_sha512) at h in absurd (cc none)
    ]
  ]
]
  where
    some_same : (a b : OtpHash) → Some a ≡ Some b → a ≡ b
    some_same a b e = cc e

    named : (found : OtpHash) → bytes_eq name (hash_name found) ≡ true → Some found ≡ Some hash → name ≡ hash_name hash
    named found is same = subst (λ k. name ≡ hash_name k) (some_same found hash same) ((bytes_eq-Decides name (hash_name found)).0 is)

-- if a value is read as a hash function, it is the text of its name
read_hash_stands : (d : Data) (hash : OtpHash) → hash_in d ≡ Ok hash → d ≡ string (hash_name hash)
unfolding hash_in text_in
read_hash_stands d hash h =
    let (name, said, rest) = each_step_gives_value (ok_or (as_str d) Key) (λ name. ok_or (hash_named name) Token) hash h in
    read_text_stands d name said ∙ ap string (named_hash_has_name name hash (option_holds_value (hash_named name) Token hash rest))

-- reading a hash function follows the demands of its type
hash_follows : (d : Data) → FollowsDemands (hash_type.demands d) (hash_in d)
unfolding hash_in text_in
hash_follows d = required_follows Key (λ name. must (is_some (hash_named name)) Token ∷ []) (as_str d)
    (λ name. ok_or (hash_named name) Token) (λ name. presence_follows Token (hash_named name))

-- hash functions are read exactly
pub hash_is_exact : IsExactType hash_type hash_in
hash_is_exact = record { found = read_hash_stands; held = λ d h is. rw is (hash_name_is_read h); follows = hash_follows }

-- a value is read as a table if and only if it is that table
pub any_table_is_exact : IsExactType any_table_type table_of
any_table_is_exact = record { found = read_members_stand; held = λ d ms is. rw is refl; follows = λ d. presence_follows Key (as_table d) }
