-- It is decidable whether a part is of its class, and whether all parts fit their places.
use Rattle.std.proofs.Common.{◌≡◌, ◌⊎◌, inl, inr, ℕ, zero, suc, ◌≤◌, ◌<◌, Bool, true, List, [], ◌∷◌, length, refl, sym, ◌∙◌, ap, subst, arith}
use Rattle.std.specs.Prelude.{decimal, not, ◌==◌, IsTrue}
use Rattle.std.specs.List.{list_all}
use Rattle.std.specs.Str.{byte, is_utf8}
use Rattle.std.specs.Str.Parse.{digits_value}
use Rattle.std.specs.declared.option.Option.TheVariants.{None, Some}
use Rattle.std.specs.declared.result.Result.{Result}
use Rattle.std.specs.declared.result.Result.TheVariants.{Ok, Err}
use Rattle.std.proofs.lemmas.Fmt.{decimal_is_IsNumeral}
use Rattle.std.proofs.lemmas.Str.{IsUtf8-from_is_utf8, is_utf8-from_IsUtf8}
use Rattle.base64.specs.GeneralPurpose.{IsBytes}
use Rattle.base64.specs.declared.decode.DecodeError.{DecodeError}
use Rattle.mac_core.proofs.lemmas.Decided.{Decided, decided_equivalent, decided_both, decided_test, decided_le, decided_same_number}
use Rattle.mac_core.proofs.lemmas.Decided.{decided_same_text}
use Rattle.scram_text.specs.Limits.{max_channel_len, max_salt_len, max_tag_len, max_iteration_count}
use Rattle.scram_text.specs.Class.{is_printable, IsCharsOf, IsNonce, IsUtf8Text}
use Rattle.scram_text.specs.Name.{LacksComma, is_escaped, IsSaslName}
use Rattle.scram_text.specs.Base64Field.{base64, base64_decoded, IsField}
use Rattle.scram_text.specs.Parts.{is_flag, IsAttrVal, IsValue, IsCount, SpellsCount, SpellsField, IsExtension}
use Rattle.scram_text.specs.inner.Pieces.{is_attribute}
use Rattle.scram_text.specs.Faults.{Fits, IsAuthzid}
use Rattle.scram_text.specs.declared.fault.TextWhy.{TextWhy}
use Rattle.scram_text.specs.declared.fault.TextWhy.TheVariants.{TooLong, NotText, Missing, Flag, Authzid, Mandatory, Name, Nonce, Salt, Count}
use Rattle.scram_text.specs.declared.fault.TextWhy.TheVariants.{Channel, Extension, Proof, Verifier, ErrorValue}
use Rattle.scram_text.proofs.lemmas.Base64.{spelled_field_is_decoded, undecoded_spells_no_field}
use Rattle.scram_text.proofs.lemmas.AttrVals.{attribute_iff_extension, extension_lacks_comma}
use Rattle.scram_text.proofs.lemmas.Counts.{count_is_below_2_64}
use Rattle.scram_text.proofs.lemmas.ListEnds.{same_head_and_tail, same_cons}
use Rattle.scram_text.proofs.lemmas.Places.{AllFit}

-- it is decidable whether bytes are a run of a class, no longer than a bound
pub decided_run : (test : ℕ → Bool) (most : ℕ) (bytes : List ℕ) → Decided (IsCharsOf test most bytes)
decided_run test most bytes =
    decided_equivalent ((1 ≤ length bytes) × ((length bytes ≤ most) × (list_all test bytes ≡ true))) (IsCharsOf test most bytes)
    (λ h. record { at_least = h.0; at_most = h.1.0; each = h.1.1 }) (λ r. (r.at_least, (r.at_most, r.each)))
    (decided_both _ _ (decided_le 1 (length bytes))
    (decided_both _ _ (decided_le (length bytes) most) (decided_test (list_all test bytes))))

-- it is decidable whether bytes are a text in UTF-8
pub decided_text : (bytes : List ℕ) → Decided (IsUtf8Text bytes)
decided_text bytes =
    decided_equivalent ((is_utf8 bytes ≡ true) × (list_all (λ c. not (c == 0)) bytes ≡ true)) (IsUtf8Text bytes)
    (λ h. record { utf8 = IsUtf8-from_is_utf8 bytes h.0; no_nul = h.1 }) (λ r. (is_utf8-from_IsUtf8 bytes r.utf8, r.no_nul))
    (decided_both _ _ (decided_test (is_utf8 bytes)) (decided_test _))

-- it is decidable whether bytes are a value
decided_value : (value : List ℕ) → Decided (IsValue value)
decided_value value =
    decided_equivalent ((1 ≤ length value) × LacksComma value) (IsValue value)
    (λ h. record { at_least = h.0; no_comma = h.1 }) (λ r. (r.at_least, r.no_comma))
    (decided_both _ _ (decided_le 1 (length value)) (decided_test _))

-- it is decidable whether bytes are a saslname
decided_saslname : (spelled : List ℕ) → Decided (IsSaslName spelled)
decided_saslname spelled =
    decided_equivalent ((1 ≤ length spelled) × (LacksComma spelled × IsTrue (is_escaped spelled))) (IsSaslName spelled)
    (λ h. record { at_least = h.0; no_comma = h.1.0; escaped = h.1.1 }) (λ r. (r.at_least, (r.no_comma, r.escaped)))
    (decided_both _ _ (decided_le 1 (length spelled)) (decided_both _ _ (decided_test _) (decided_test _)))

-- it is decidable whether a part is an extension
decided_extension : (part : List ℕ) → Decided (IsExtension part)
decided_extension part =
    decided_equivalent (IsTrue (is_attribute part) × LacksComma part) (IsExtension part)
    (λ (attribute, lacks). (attribute_iff_extension part lacks).0 attribute)
    (λ is. let lacks = extension_lacks_comma part is in ((attribute_iff_extension part lacks).1 is, lacks))
    (decided_both _ _ (decided_test _) (decided_test _))

-- it is decidable whether a number is a count
decided_count : (count : ℕ) → Decided (IsCount count)
decided_count count =
    decided_equivalent ((1 ≤ count) × (count ≤ max_iteration_count)) (IsCount count)
    (λ h. record { at_least = h.0; at_most = h.1 }) (λ r. (r.at_least, r.at_most))
    (decided_both _ _ (decided_le 1 count) (decided_le count max_iteration_count))

-- it is decidable whether a value spells a count: it can only be the decimal of its digits' number
decided_spells_count : (value : List ℕ) → Decided (SpellsCount value)
decided_spells_count value =
    let worth = digits_value 10 value in
    decided_equivalent ((value ≡ decimal worth) × IsCount worth) (SpellsCount value) (λ h. (worth, h.0, h.1))
    (λ (n, spelled, is).
    let same : worth ≡ n = ap (digits_value 10) spelled ∙ (decimal_is_IsNumeral n (count_is_below_2_64 n is)).1 in
    (subst (λ (k : ℕ). value ≡ decimal k) (sym same) spelled, subst IsCount (sym same) is))
    (decided_both _ _ (decided_same_text value (decimal worth)) (decided_count worth))

-- a number below 256 put before bytes makes bytes
IsBytes-cons : (c : ℕ) (bytes : List ℕ) → c < 256 → IsBytes bytes → IsBytes (c ∷ bytes)
IsBytes-cons c bytes below fits zero = below
IsBytes-cons c bytes below fits (suc i) = fits i

-- it is decidable whether numbers are bytes
decided_bytes : (bytes : List ℕ) → Decided (IsBytes bytes)
decided_bytes [] = inl (λ i. omega arith)
decided_bytes (c ∷ bytes) =
    decided_equivalent ((suc c ≤ 256) × IsBytes bytes) (IsBytes (c ∷ bytes)) (λ h. IsBytes-cons c bytes (omega (arith, h.0)) h.1)
    (λ fits. (omega (arith, fits 0), λ i. fits (suc i)))
    (decided_both _ _ (decided_le (suc c) 256) (decided_bytes bytes))

-- it is decidable whether bytes are a field
decided_field : (most : ℕ) (bytes : List ℕ) → Decided (IsField most bytes)
decided_field most bytes =
    decided_equivalent ((1 ≤ length bytes) × ((length bytes ≤ most) × IsBytes bytes)) (IsField most bytes)
    (λ h. record { at_least = h.0; at_most = h.1.0; each = h.1.1 }) (λ is. (is.at_least, (is.at_most, is.each)))
    (decided_both _ _ (decided_le 1 (length bytes)) (decided_both _ _ (decided_le (length bytes) most) (decided_bytes bytes)))

-- it is decidable whether a value spells a field, once it is known what it decodes to
decided_field_by_decoding : (most : ℕ) (value : List ℕ) (r : Result (List ℕ) DecodeError) → base64_decoded value ≡ r
    → Decided (SpellsField most value)
unfolding base64_decoded
decided_field_by_decoding most value (Err e) read = inr (undecoded_spells_no_field most value e read)
decided_field_by_decoding most value (Ok bytes) read =
    decided_equivalent ((value ≡ base64 bytes) × IsField most bytes) (SpellsField most value) (λ h. (bytes, h.0, h.1))
    (spelled_field_is_decoded most value bytes read)
    (decided_both _ _ (decided_same_text value (base64 bytes)) (decided_field most bytes))

-- it is decidable whether a value spells a field
decided_spells_field : (most : ℕ) (value : List ℕ) → Decided (SpellsField most value)
decided_spells_field most value = decided_field_by_decoding most value (base64_decoded value) refl

-- it is decidable whether a part is a letter, `=` and a value of a class, if the class is decidable
decided_attr_val : (letter : ℕ) (class : List ℕ → Type 0) (part : List ℕ) → ((value : List ℕ) → Decided (class value))
    → Decided (IsAttrVal letter class part)
decided_attr_val letter class [] each = inr (λ (value, spelled, is). cc spelled)
decided_attr_val letter class (a ∷ []) each =
    inr (λ (value, spelled, is). let none = (same_head_and_tail a letter [] (byte "=" ∷ value) spelled).1 in cc none)
decided_attr_val letter class (a ∷ b ∷ value) each =
    decided_equivalent ((a ≡ letter) × ((b ≡ byte "=") × class value)) (IsAttrVal letter class (a ∷ b ∷ value))
    (λ h. (value, same_cons a letter (b ∷ value) (byte "=" ∷ value) h.0 (same_cons b (byte "=") value value h.1.0 refl), h.1.1))
    (λ (v, spelled, is).
    let first = same_head_and_tail a letter (b ∷ value) (byte "=" ∷ v) spelled in
    let second = same_head_and_tail b (byte "=") value v first.1 in
    (first.0, (second.0, subst class (sym second.1) is)))
    (decided_both _ _ (decided_same_number a letter) (decided_both _ _ (decided_same_number b (byte "=")) (each value)))

-- a part for the name to act as that is not empty is `a=` and a saslname
authzid_is_attr_val : (a : ℕ) (part : List ℕ) → IsAuthzid (a ∷ part) → IsAttrVal (byte "a") IsSaslName (a ∷ part)
authzid_is_attr_val a part (None, spelled, is) = absurd (cc spelled)
authzid_is_attr_val a part (Some name, spelled, is) = (name, spelled, is)

-- it is decidable whether a part is one for the name to act as
decided_authzid : (part : List ℕ) → Decided (IsAuthzid part)
decided_authzid [] = inl (None, refl, tt)
decided_authzid (a ∷ part) =
    decided_equivalent (IsAttrVal (byte "a") IsSaslName (a ∷ part)) (IsAuthzid (a ∷ part))
    (λ (spelled, is, class). (Some spelled, is, class)) (authzid_is_attr_val a part)
    (decided_attr_val (byte "a") IsSaslName (a ∷ part) decided_saslname)

-- it is decidable whether a part fits its place
decided_fits : (most : ℕ) (place : TextWhy) (part : List ℕ) → Decided (Fits most place part)
decided_fits most TooLong part = inl tt
decided_fits most NotText part = inl tt
decided_fits most Missing part = inl tt
decided_fits most Flag part = decided_test (is_flag part)
decided_fits most Authzid part = decided_authzid part
decided_fits most Mandatory part = decided_attr_val (byte "m") IsValue part decided_value
decided_fits most Name part = decided_attr_val (byte "n") IsSaslName part decided_saslname
decided_fits most Nonce part = decided_attr_val (byte "r") (IsNonce most) part (decided_run is_printable most)
decided_fits most Salt part = decided_attr_val (byte "s") (SpellsField max_salt_len) part (decided_spells_field max_salt_len)
decided_fits most Count part = decided_attr_val (byte "i") SpellsCount part decided_spells_count
decided_fits most Channel part = decided_attr_val (byte "c") (SpellsField max_channel_len) part (decided_spells_field max_channel_len)
decided_fits most Extension part = decided_extension part
decided_fits most Proof part = decided_attr_val (byte "p") (SpellsField max_tag_len) part (decided_spells_field max_tag_len)
decided_fits most Verifier part = decided_attr_val (byte "v") (SpellsField max_tag_len) part (decided_spells_field max_tag_len)
decided_fits most ErrorValue part = decided_attr_val (byte "e") IsValue part decided_value

-- it is decidable whether all parts fit their places
pub decided_all_fit : (most : ℕ) (later : List TextWhy) (pieces : List (List ℕ)) → Decided (AllFit most later pieces)
unfolding AllFit
decided_all_fit most [] pieces = inl tt
decided_all_fit most (place ∷ later) [] = inl tt
decided_all_fit most (place ∷ later) (part ∷ pieces) = decided_both _ _ (decided_fits most place part) (decided_all_fit most later pieces)

-- if it is decidable whether something exists, there is one or there is none
pub some_or_none : (A : Type 0) (P : A → Type 0) → Decided ((a : A) × P a) → ((a : A) × P a) ⊎ ((a : A) → P a → ⊥)
some_or_none A P d = elim d [ inl there ↦ inl there | inr none ↦ inr (λ a is. none (a, is)) ]
