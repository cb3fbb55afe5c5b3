-- A token is read from its table and from no other value; any other is refused for the first demand that it does not meet.
use Rattle.std.proofs.Common.{◌≡◌, ℕ, List, codes, Option, Some, None, Ok, Err, ok_or, refl, ap, subst, ◌∙◌, inl, inr}
use Rattle.std.specs.Option.{option_and_then}
use Rattle.std.specs.Str.{bytes_eq}
use Rattle.std.proofs.lemmas.Bool.{cases_Bool}
use Rattle.std.proofs.lemmas.Slice.Eq.{bytes_eq-Decides}
use Rattle.toml.specs.Data.{Data, string, table, Members, get_member, as_str, as_table}
use Rattle.otp_core.specs.declared.token.kinds.TokenFields.{TokenFields}
use Rattle.otp_core.specs.declared.token.kinds.TokenFields.TheVariants.{Hotp, Totp}
use Rattle.book_format.specs.inner.Values.{text_in, table_of}
use Rattle.book_format.specs.Demands.{required}
use Rattle.book_format.specs.inner.Steps.{◌>>=◌}
use Rattle.book_format.specs.inner.Rows.{read_or, read_table}
use Rattle.book_format.specs.Tables.{token_type}
use Rattle.book_format.specs.Tokens.{hotp_table, totp_table, IsToken, kind_demands, token_demands}
use Rattle.book_format.specs.inner.Tokens.{hotp_reading, totp_reading, token_of_kind, token_in}
use Rattle.book_format.specs.declared.fault.BookWhy.TheVariants.{Key}
use Rattle.book_format.proofs.lemmas.Demands.{FollowsDemands, required_follows, making_keeps_faults}
use Rattle.book_format.proofs.lemmas.Steps.{each_step_gives_value, same_ok_has_same_value}
use Rattle.book_format.proofs.lemmas.ValueTypes.{number_is_exact, signed_is_exact, bytes_are_exact, hash_is_exact}
use Rattle.book_format.proofs.lemmas.Rows.{IsExactTable, IsExactType, read_table_stands, table_is_read, table_follows, read_members_stand}
use Rattle.book_format.proofs.lemmas.RowKinds.{row_is_exact, row_up_to_is_exact, row_or_default_is_exact, optional_is_exact}

-- the table of a HOTP token is read exactly
pub hotp_is_exact : IsExactTable hotp_table hotp_reading
hotp_is_exact = record {
  gives = λ vs. refl;
  keeps = λ t. refl;
  rows = search (row_is_exact, row_or_default_is_exact, row_up_to_is_exact, bytes_are_exact, number_is_exact) parts 16;
}

-- the table of a TOTP token is read exactly
pub totp_is_exact : IsExactTable totp_table totp_reading
totp_is_exact = record {
  gives = λ vs. refl;
  keeps = λ t. refl;
  rows = search (row_is_exact, optional_is_exact, row_up_to_is_exact, bytes_are_exact, number_is_exact, signed_is_exact, hash_is_exact)
      parts 24;
}

-- a text that was read at a key is there
read_text_at_stands : (o : Option Data) (name : List ℕ) → read_or (Err Key) text_in o ≡ Ok name → o ≡ Some (string name)
unfolding text_in
read_text_at_stands None name h = absurd (cc h)
read_text_at_stands (Some (string s)) name h = ap (λ s. Some (string s)) (same_ok_has_same_value s name h)
read_text_at_stands (Some d) name h = absurd (cc h)

-- a table that was read as a token of a kind is that of the token
read_token_of_kind_stands : (d : Data) (ms : Members) (name : List ℕ) (fields : TokenFields) → d ≡ table ms
    → get_member (codes "kind") ms ≡ Some (string name) → token_of_kind name ms ≡ Ok fields → IsToken d fields
unfolding token_of_kind
read_token_of_kind_stands d ms name fields is_table there h = elim (cases_Bool (bytes_eq name (codes "hotp"))) [
  | inl is ↦
      let (t, read, same) = each_step_gives_value (read_table hotp_table hotp_reading ms) _ fields (rw is at h) in
      let named = there ∙ ap (λ n. Some (string n)) ((bytes_eq-Decides name (codes "hotp")).0 is) in
      subst (λ f. IsToken d f) (same_ok_has_same_value (Hotp t) fields same) (
        ms,
        is_table,
        read_table_stands hotp_table hotp_reading hotp_is_exact ms t
            (named, tt) read,
      )
  | inr not_hotp ↦ elim (cases_Bool (bytes_eq name (codes "totp"))) [
    | inl is ↦
        let (t, read, same) = each_step_gives_value (read_table totp_table totp_reading ms) _ fields (rw (not_hotp, is) at h) in
        let named = there ∙ ap (λ n. Some (string n)) ((bytes_eq-Decides name (codes "totp")).0 is) in
        subst (λ f. IsToken d f) (same_ok_has_same_value (Totp t) fields same) (
          ms,
          is_table,
          read_table_stands totp_table totp_reading totp_is_exact ms t
              (named, tt) read,
        )
    | inr not_totp ↦
        let none = rw (not_hotp, not_totp) at h in absurd (cc none)
  ]
]

-- if a value is read as a token, it is that token's table
read_token_stands : (d : Data) (fields : TokenFields) → token_in d ≡ Ok fields → IsToken d fields
unfolding token_in
read_token_stands d fields h =
    let (ms, is_table, h0) = each_step_gives_value (table_of d) _ fields h in
    let (name, said, h1) = each_step_gives_value (read_or (Err Key) text_in (get_member (codes "kind") ms)) _ fields h0 in
    read_token_of_kind_stands d ms name fields (read_members_stand d ms is_table) (read_text_at_stands _ name said) h1

-- a token's table is read as that token
token_is_read : (d : Data) (fields : TokenFields) → IsToken d fields → token_in d ≡ Ok fields
unfolding token_in token_of_kind text_in
token_is_read d (Hotp t) h = rw (h.1, h.2.marks.0, table_is_read hotp_table hotp_reading hotp_is_exact h.0 t h.2) refl
token_is_read d (Totp t) h = rw (h.1, h.2.marks.0, table_is_read totp_table totp_reading totp_is_exact h.0 t h.2) refl

-- reading a table as a token of a kind follows the demands of the kind
token_of_kind_follows : (name : List ℕ) (ms : Members) → FollowsDemands (kind_demands name ms) (token_of_kind name ms)
unfolding token_of_kind
token_of_kind_follows name ms = elim (cases_Bool (bytes_eq name (codes "hotp"))) [
  | inl is ↦ rw is (table_follows hotp_table hotp_reading hotp_is_exact ms ∙ making_keeps_faults (read_table hotp_table hotp_reading ms) Hotp)
  | inr not_hotp ↦ elim (cases_Bool (bytes_eq name (codes "totp"))) [
    | inl is ↦ rw (not_hotp, is) (table_follows totp_table totp_reading totp_is_exact ms ∙ making_keeps_faults (read_table totp_table totp_reading ms) Totp)
    | inr not_totp ↦ rw (not_hotp, not_totp) refl
  ]
]

-- demanding a text of an option and reading it there give the same result
text_readings_are_same : (o : Option Data) → ok_or (option_and_then as_str o) Key ≡ read_or (Err Key) text_in o
unfolding text_in
text_readings_are_same None = refl
text_readings_are_same (Some d) = refl

-- reading a value as a token follows the demands on tokens
token_follows : (d : Data) → FollowsDemands (token_demands d) (token_in d)
unfolding token_in token_demands
token_follows d = required_follows Key _ (as_table d) _ (λ ms.
    let kind = get_member (codes "kind") ms in
    subst (λ r.
    FollowsDemands (required Key (λ name. kind_demands name ms) (option_and_then as_str kind)) (r >>= λ name. token_of_kind name ms))
    (text_readings_are_same kind)
    (required_follows Key (λ name. kind_demands name ms) (option_and_then as_str kind) (λ name. token_of_kind name ms)
    (λ name. token_of_kind_follows name ms)))

-- a value is read as a token if and only if it is that token's table
pub token_is_exact : IsExactType token_type token_in
token_is_exact = record { found = read_token_stands; held = token_is_read; follows = token_follows }
