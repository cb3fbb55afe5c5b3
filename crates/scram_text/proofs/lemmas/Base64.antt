-- The texts of the STANDARD engine have their usual form: no comma, and four characters for each three bytes or part of three. Each
-- decodes to the bytes of which it is the base64, and no other text does.
use Rattle.std.proofs.Common.{◌≡◌, ℕ, ◌+◌, ◌*◌, ◌/◌, ◌≤◌, ◌<◌, not, List, length, take, drop, replicate, refl, sym, ◌∙◌, ap, arith, length-append}
use Rattle.std.proofs.Common.{subst}
use Rattle.std.specs.declared.result.Result.TheVariants.{Ok, Err}
use Rattle.std.proofs.lemmas.List.{length-replicate, length-take-le, take-append-drop}
use Rattle.base64.specs.declared.decode.DecodeError.{DecodeError}
use Rattle.base64.specs.Engines.{standard}
use Rattle.base64.specs.GeneralPurpose.{decode_of, IsBytes}
use Rattle.base64.specs.Rfc4648.{encode_symbols, padding_len, unpadded_len}
use Rattle.base64.proofs.EngineFacts.{decode_of-encode_of, decode_of_strict, front_bytes}
use Rattle.base64.proofs.RoundTrip.{length-encode_symbols}
use Rattle.scram_text.specs.Class.{is_comma}
use Rattle.scram_text.specs.Name.{LacksComma}
use Rattle.scram_text.specs.Base64Field.{base64, base64_decoded, IsField}
use Rattle.scram_text.specs.Laws.{HasUsualBase64}
use Rattle.scram_text.specs.Parts.{SpellsField}
use Rattle.scram_text.proofs.lemmas.Base64Texts.{base64_passes_test}

-- the base64 of bytes has no comma
pub base64_lacks_comma : (bytes : List ℕ) → IsBytes bytes → LacksComma (base64 bytes)
base64_lacks_comma bytes fits = base64_passes_test (λ c. not (is_comma c)) refl refl bytes fits

-- the characters of base64 for `n` bytes and their padding are four for each three bytes, or part of three
padding_fills_fours : (n : ℕ) → unpadded_len n + padding_len n ≡ 4 * ((n + 2) / 3)
padding_fills_fours n = omega arith

-- a text of base64 with its padding has four characters for each three bytes, or part of three
pub length-base64 : (bytes : List ℕ) → length (base64 bytes) ≡ 4 * ((length bytes + 2) / 3)
unfolding base64
length-base64 bytes =
    length-append (encode_symbols standard.encode_table bytes) (replicate (padding_len (length bytes)) 61)
    ∙ rw (length-encode_symbols standard.encode_table bytes, length-replicate) (padding_fills_fours (length bytes))

-- the base64 of bytes decodes to them
pub base64_decodes_back : (bytes : List ℕ) → IsBytes bytes → base64_decoded (base64 bytes) ≡ Ok bytes
unfolding base64_decoded base64
base64_decodes_back bytes fits = decode_of-encode_of standard bytes refl fits

-- a text that decodes is the base64 of what it decodes to
decoded_text_is_base64 : (text bytes : List ℕ) → IsBytes text → base64_decoded text ≡ Ok bytes → text ≡ base64 bytes
unfolding base64_decoded base64
decoded_text_is_base64 text bytes fits read = decode_of_strict standard text bytes (refl, refl) fits read

-- the law: base64 has its usual form
pub has_usual_base64 : HasUsualBase64
has_usual_base64 bytes fits least most =
    record { decoded = base64_decodes_back bytes fits; no_comma = base64_lacks_comma bytes fits; len = length-base64 bytes }

-- the front of bytes is bytes
pub taken_are_bytes : (n : ℕ) (bytes : List ℕ) → IsBytes bytes → IsBytes (take n bytes)
taken_are_bytes n bytes fits = front_bytes (take n bytes) (drop n bytes) (subst IsBytes (sym (take-append-drop n bytes)) fits)

-- the first bytes of a buffer, 1 to `most` to which a text was decoded, are what a field may hold, and the text is their base64
pub decoded_bytes_are_field : (most size : ℕ) (text buffer : List ℕ) → IsBytes text → IsBytes buffer
    → decode_of standard text ≡ Ok (take size buffer) → 1 ≤ size → size ≤ most → size ≤ length buffer
    → IsField most (take size buffer) × (text ≡ base64 (take size buffer))
unfolding base64_decoded
decoded_bytes_are_field most size text buffer fits buffer_fits read some within room =
    let whole : length (take size buffer) ≡ size = length-take-le size buffer room in (
      record {
        at_least = omega (arith, whole, some);
        at_most = omega (arith, whole, within);
        each = taken_are_bytes size buffer buffer_fits;
      },
      decoded_text_is_base64 text _ fits read,
    )

-- the bytes of a field are those that it decodes to, and the text of a field is their base64
pub spelled_field_is_decoded : (most : ℕ) (text bytes : List ℕ) → decode_of standard text ≡ Ok bytes → SpellsField most text
    → (text ≡ base64 bytes) × IsField most bytes
unfolding base64_decoded
spelled_field_is_decoded most text bytes read (spelt, spelled, field) =
    let also = subst (λ (t : List ℕ). base64_decoded t ≡ Ok spelt) (sym spelled) (base64_decodes_back spelt field.each) in
    let same : spelt ≡ bytes = cc (also, read) in
    subst (λ (b : List ℕ). (text ≡ base64 b) × IsField most b) same (spelled, field)

-- a text that does not decode is not a field
pub undecoded_spells_no_field : (most : ℕ) (text : List ℕ) (e : DecodeError) → decode_of standard text ≡ Err e → SpellsField most text → ⊥
unfolding base64_decoded
undecoded_spells_no_field most text e read (spelt, spelled, field) =
    let also = subst (λ (t : List ℕ). base64_decoded t ≡ Ok spelt) (sym spelled) (base64_decodes_back spelt field.each) in
    cc (also, read)

-- the base64 of a field that is too long spells no field
pub long_base64_spells_no_field : (most other : ℕ) (text bytes : List ℕ) → IsField other bytes → text ≡ base64 bytes → most < length bytes
    → SpellsField most text → ⊥
unfolding base64_decoded
long_base64_spells_no_field most other text bytes field is long spells =
    let read = subst (λ (t : List ℕ). base64_decoded t ≡ Ok bytes) (sym is) (base64_decodes_back bytes field.each) in
    omega (arith, long, (spelled_field_is_decoded most text bytes read spells).1.at_most)

-- the base64 of a field has at most four characters for each three bytes, or part of three, of those that the field may hold
pub field_has_its_length : (most : ℕ) (text bytes : List ℕ) → text ≡ base64 bytes → IsField most bytes → length text ≤ (most + 2) / 3 * 4
field_has_its_length most text bytes spelled field =
    let whole : length text ≡ length (base64 bytes) = ap length spelled in
    omega (arith, whole, length-base64 bytes, field.at_most)

-- 1 to `most` bytes are what a field may hold
pub bytes_are_field : (most : ℕ) (bytes : List ℕ) → IsBytes bytes → 1 ≤ length bytes → length bytes ≤ most → IsField most bytes
bytes_are_field most bytes fits least within = record { at_least = least; at_most = within; each = fits }
