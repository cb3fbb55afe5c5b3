-- The fields of a verifier are spelled as those of messages, whose readers find them.
use Rattle.std.proofs.Common.{◌≡◌, ◌≤◌, ℕ, List, [], ◌∷◌, ◌++◌, length, sym, ◌∙◌, ap, subst, refl, arith, inl, inr, not, get_or, append_assoc}
use Rattle.std.specs.Prelude.{◌==◌, codes, decimal}
use Rattle.std.specs.Str.{byte}
use Rattle.std.specs.Str.Parse.{AllDigits}
use Rattle.std.proofs.lemmas.Bool.{cases_Bool, eqb-true}
use Rattle.std.proofs.lemmas.Fmt.{decimal_is_IsNumeral, length-decimal-le}
use Rattle.std.proofs.lemmas.List.{append_cancel_left}
use Rattle.base64.specs.GeneralPurpose.{IsBytes}
use Rattle.mac_core.specs.Mechanism.{digest_len_by}
use Rattle.mac_core.specs.declared.mechanism.Mechanism.{Mechanism}
use Rattle.mac_core.specs.declared.mechanism.Mechanism.TheVariants.{ScramSha1, ScramSha256}
use Rattle.scram_text.specs.Base64Field.{base64, IsField}
use Rattle.scram_text.specs.Class.{Lacks}
use Rattle.scram_text.specs.Limits.{max_salt_len, max_tag_len}
use Rattle.scram_text.specs.Messages.{IsServerFirst, IsServerFinal, server_final_text, server_error, verifier}
use Rattle.scram_text.specs.Parts.{IsCount}
use Rattle.scram_text.specs.Written.{server_first_of, server_final_of}
use Rattle.scram_text.proofs.lemmas.Base64.{base64_lacks_comma}
use Rattle.scram_text.proofs.lemmas.Base64Texts.{base64_passes_test}
use Rattle.scram_text.proofs.lemmas.Counts.{count_is_below_2_64, decimal_lacks_comma}
use Rattle.scram_text.proofs.lemmas.CutAtByte.{lacking_text_is_not_cut, one_cut}
use Rattle.scram_text.proofs.lemmas.messages_composed.ServerFinal.{signature_is_text, written_is_server_final}
use Rattle.scram_ends.proofs.lemmas.Written.{signature_can_be_written, signature_is_short}
use Rattle.c_library.specs.Verifiers.{IsVerifier, scheme, outer, inner, fields_text}
use Rattle.c_library.specs.declared.verifier.Spelling.{Spelling}
use Rattle.c_library.specs.declared.verifier.Spelling.TheVariants.{Postgres, Dovecot}
use Rattle.c_library.specs.inner.Verifiers.{AreCut}
use Rattle.c_library.proofs.lemmas.Challenges.{composed_is_challenge}

-- `v=` and the base64 of 1 to 64 bytes are a server-final message
pub field_is_server_final : (text bytes : List ℕ) → IsField max_tag_len bytes → text ≡ codes "v=" ++ base64 bytes
    → IsServerFinal text (server_final_of (verifier bytes) [])
unfolding server_final_text
field_is_server_final text bytes field same =
    subst (λ (t : List ℕ). IsServerFinal t (server_final_of (verifier bytes) [])) (sym same)
    (written_is_server_final (verifier bytes) [] (signature_is_text bytes field.each) (signature_can_be_written bytes field)
    (signature_is_short bytes field.at_most))

-- an error is no verifier
pub error_is_no_verifier : (value bytes : List ℕ) → server_error value ≡ verifier bytes → ⊥
error_is_no_verifier value bytes same = cc

-- one signature is in a verifier
pub one_signature : (one other : List ℕ) → verifier one ≡ verifier other → one ≡ other
one_signature one other same = cc

-- a challenge to `x` by `y` with the base64 of a salt and the decimal of a count is a server-first message
pub fields_are_server_first : (text salt : List ℕ) (count : ℕ) → IsField max_salt_len salt → IsCount count
    → text ≡ ((codes "r=xy,s=" ++ base64 salt) ++ codes ",i=") ++ decimal count
    → IsServerFirst text (server_first_of (codes "xy") salt count [])
fields_are_server_first text salt count field is same =
    composed_is_challenge (codes "x") (codes "y") salt count text same
    (record { at_least = omega arith; at_most = omega arith; each = refl })
    (record { at_least = omega arith; at_most = omega arith; each = refl })
    field.each (record { at_least = field.at_least; at_most = field.at_most }) is.at_least (omega (arith, is.at_most))

-- the decimal of a count has at most ten digits
pub count_is_short : (count : ℕ) → IsCount count → length (decimal count) ≤ 10
count_is_short count is = length-decimal-le 10 count (omega arith) (omega (arith, is.at_most)) (omega (arith, is.at_most))

-- decimal digits have no colon
digits_lack_colon : (digits : List ℕ) → AllDigits 10 digits → Lacks (byte ":") digits
digits_lack_colon [] all = refl
digits_lack_colon (c ∷ digits) all = elim (cases_Bool (c == byte ":")) [
  | inl hit ↦ let value = rw (eqb-true c (byte ":") hit) at all.0 in absurd (omega (arith, value))
  | inr miss ↦ rw miss (digits_lack_colon digits all.1)
]

-- the decimal of a count lacks the byte after it
count_is_ended : (s : Spelling) (count : ℕ) → IsCount count → Lacks (outer s) (decimal count)
count_is_ended Postgres count is = digits_lack_colon (decimal count) (decimal_is_IsNumeral count (count_is_below_2_64 count is)).0.1
count_is_ended Dovecot count is = decimal_lacks_comma count is

-- the base64 of a salt lacks the byte after it
salt_is_ended : (s : Spelling) (salt : List ℕ) → IsBytes salt → Lacks (inner s) (base64 salt)
salt_is_ended Postgres salt fits = base64_passes_test (λ c. not (c == byte "$")) refl refl salt fits
salt_is_ended Dovecot salt fits = base64_lacks_comma salt fits

-- the base64 of a key lacks the byte after it
key_is_ended : (s : Spelling) (key : List ℕ) → IsBytes key → Lacks (outer s) (base64 key)
key_is_ended Postgres key fits = base64_passes_test (λ c. not (c == byte ":")) refl refl key fits
key_is_ended Dovecot key fits = base64_lacks_comma key fits

-- the fields of a verifier are cut at the bytes that end them
pub verifier_is_cut : (text : List ℕ) (s : Spelling) (m : Mechanism) (count : ℕ) (salt stored server : List ℕ)
    → IsVerifier text s m count salt stored server → AreCut s (decimal count) (base64 salt) (base64 stored)
verifier_is_cut text s m count salt stored server is = record {
  count_ends = count_is_ended s count is.is_count;
  salt_ends = salt_is_ended s salt is.is_salt.each;
  stored_ends = key_is_ended s stored is.is_stored.0.each;
}

-- what a verifier has after its scheme is its fields
pub rest_is_fields : (s : Spelling) (m : Mechanism) (rest : List ℕ) (count : ℕ) (salt stored server : List ℕ)
    → IsVerifier (scheme s m ++ rest) s m count salt stored server
    → rest ≡ fields_text s (decimal count) (base64 salt) (base64 stored) (base64 server)
rest_is_fields s m rest count salt stored server is = append_cancel_left (scheme s m) rest _ is.spelled

-- a text begins with only one scheme
pub one_scheme : (s t : Spelling) (m n : Mechanism) (rest more : List ℕ) → scheme s m ++ rest ≡ scheme t n ++ more → (s ≡ t) × (m ≡ n)
one_scheme Postgres Postgres ScramSha1 ScramSha1 rest more same = (refl, refl)
one_scheme Postgres Postgres ScramSha1 ScramSha256 rest more same =
    let other : byte "1" ≡ byte "2" = ap (λ (text : List ℕ). get_or text 10 0) same in absurd (omega (arith, other))
one_scheme Postgres Postgres ScramSha256 ScramSha1 rest more same =
    let other : byte "2" ≡ byte "1" = ap (λ (text : List ℕ). get_or text 10 0) same in absurd (omega (arith, other))
one_scheme Postgres Postgres ScramSha256 ScramSha256 rest more same = (refl, refl)
one_scheme Dovecot Dovecot ScramSha1 ScramSha1 rest more same = (refl, refl)
one_scheme Dovecot Dovecot ScramSha1 ScramSha256 rest more same =
    let other : byte "1" ≡ byte "2" = ap (λ (text : List ℕ). get_or text 11 0) same in absurd (omega (arith, other))
one_scheme Dovecot Dovecot ScramSha256 ScramSha1 rest more same =
    let other : byte "2" ≡ byte "1" = ap (λ (text : List ℕ). get_or text 11 0) same in absurd (omega (arith, other))
one_scheme Dovecot Dovecot ScramSha256 ScramSha256 rest more same = (refl, refl)
one_scheme Postgres Dovecot ScramSha1 ScramSha1 rest more same =
    let other : byte "S" ≡ byte "{" = ap (λ (text : List ℕ). get_or text 0 0) same in absurd (omega (arith, other))
one_scheme Postgres Dovecot ScramSha1 ScramSha256 rest more same =
    let other : byte "S" ≡ byte "{" = ap (λ (text : List ℕ). get_or text 0 0) same in absurd (omega (arith, other))
one_scheme Postgres Dovecot ScramSha256 ScramSha1 rest more same =
    let other : byte "S" ≡ byte "{" = ap (λ (text : List ℕ). get_or text 0 0) same in absurd (omega (arith, other))
one_scheme Postgres Dovecot ScramSha256 ScramSha256 rest more same =
    let other : byte "S" ≡ byte "{" = ap (λ (text : List ℕ). get_or text 0 0) same in absurd (omega (arith, other))
one_scheme Dovecot Postgres ScramSha1 ScramSha1 rest more same =
    let other : byte "{" ≡ byte "S" = ap (λ (text : List ℕ). get_or text 0 0) same in absurd (omega (arith, other))
one_scheme Dovecot Postgres ScramSha1 ScramSha256 rest more same =
    let other : byte "{" ≡ byte "S" = ap (λ (text : List ℕ). get_or text 0 0) same in absurd (omega (arith, other))
one_scheme Dovecot Postgres ScramSha256 ScramSha1 rest more same =
    let other : byte "{" ≡ byte "S" = ap (λ (text : List ℕ). get_or text 0 0) same in absurd (omega (arith, other))
one_scheme Dovecot Postgres ScramSha256 ScramSha256 rest more same =
    let other : byte "{" ≡ byte "S" = ap (λ (text : List ℕ). get_or text 0 0) same in absurd (omega (arith, other))

-- the fields of a verifier, one by one
pub fields_regroup : (s : Spelling) (count salt stored server : List ℕ) → fields_text s count salt stored server
    ≡ count ++ outer s ∷ (salt ++ inner s ∷ (stored ++ outer s ∷ server))
fields_regroup s count salt stored server = simp append_assoc

-- of a text with this field before this byte, that is what precedes the first such byte, and the rest follows it
pub one_field : (b joint : ℕ) (text front back field rest : List ℕ) → joint ≡ b → (text ≡ front ++ joint ∷ back) × Lacks joint front
    → Lacks b field → text ≡ field ++ b ∷ rest → (front ≡ field) × (back ≡ rest)
one_field b joint text front back field rest is cut ends same =
    let found = rw is at cut in one_cut b front field back rest found.1 ends (sym found.0 ∙ same)

-- a text with this field before this byte has such a byte
pub some_field : (b joint : ℕ) (text field rest : List ℕ) → joint ≡ b → Lacks joint text → text ≡ field ++ b ∷ rest → ⊥
some_field b joint text field rest is lacks same = lacking_text_is_not_cut b text field rest (rw is at lacks) same

-- a key of a mechanism is what a tag may be
pub key_is_tag : (m : Mechanism) (key : List ℕ) → IsField (digest_len_by m) key → IsField max_tag_len key
key_is_tag ScramSha1 key is = record { at_least = is.at_least; at_most = omega (arith, is.at_most); each = is.each }
key_is_tag ScramSha256 key is = record { at_least = is.at_least; at_most = omega (arith, is.at_most); each = is.each }

-- bytes of the length of a mechanism's digests are a key of it
pub bytes_are_key : (m : Mechanism) (key : List ℕ) → IsBytes key → length key ≡ digest_len_by m
    → IsField (digest_len_by m) key × (length key ≡ digest_len_by m)
bytes_are_key ScramSha1 key bytes long = (record { at_least = omega (arith, long); at_most = omega (arith, long); each = bytes }, long)
bytes_are_key ScramSha256 key bytes long = (record { at_least = omega (arith, long); at_most = omega (arith, long); each = bytes }, long)
