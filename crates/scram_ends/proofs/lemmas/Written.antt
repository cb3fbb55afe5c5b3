-- What is written comes after what a buffer held, and what the server writes is within the limits.
use Rattle.std.proofs.Common.{◌≡◌, ◌≤◌, ◌<◌, ◌^◌, ◌-◌, ℕ, List, [], ◌++◌, length, take, drop, ap, refl, arith, length-append}
use Rattle.std.specs.Prelude.{decimal, Vec}
use Rattle.std.specs.declared.result.Result.{Result}
use Rattle.std.proofs.lemmas.Fmt.{length-decimal-le}
use Rattle.std.proofs.lemmas.Grind.{common_steps}
use Rattle.scram_text.specs.Limits.{max_message_len, max_nonce_len, max_salt_len, max_tag_len}
use Rattle.scram_text.specs.Class.{IsNonce}
use Rattle.scram_text.specs.Base64Field.{IsField}
use Rattle.scram_text.specs.Messages.{server_first_text, verifier, server_error, server_final_text}
use Rattle.scram_text.specs.Written.{server_first_of, server_final_of, IsExtensionText, CanBeVerifierOrError, CanBeServerFirst, CanBeServerFinal}
use Rattle.scram_text.specs.Written.{IsMessageWritten}
use Rattle.scram_text.specs.declared.fault.WriteFault.{WriteFault}
use Rattle.scram_text.proofs.lemmas.Base64.{length-base64}
use Rattle.scram_text.proofs.lemmas.Texts.{empty_is_text, plain_is_text}
use Rattle.scram_text.proofs.lemmas.messages_composed.ServerFirst.{pieces_compose_server_first}
use Rattle.scram_text.proofs.lemmas.messages_composed.ServerFinal.{pieces_compose_server_final}
use Rattle.scram_ends.specs.Verdict.{error_value}
use Rattle.scram_ends.specs.inner.Written.{IsWrittenUnlessFull}
use Rattle.scram_ends.specs.declared.verdict.Refusal.{Refusal}
use Rattle.scram_ends.specs.declared.verdict.Refusal.TheVariants.{InvalidEncoding, ExtensionsNotSupported, OtherNonce, Channel, InvalidProof}
use Rattle.scram_ends.specs.declared.verdict.Refusal.TheVariants.{NotAuthorised}

-- if a buffer is a front followed by a text, its slice from the front's end on is that text
pub slice_after_front_is_text : (items front text : List ℕ) (start : ℕ)
    → items ≡ front ++ text → start ≡ length front → take (length items - start) (drop start items) ≡ text
slice_after_front_is_text items front text start same at = rw (same, at) (grind (arith, common_steps))

-- if a buffer is a front followed by a text, it is cut at the front's end into these two
pub cut_at_front_is_front_and_text : (items front text : List ℕ) (end : ℕ)
    → items ≡ front ++ text → end ≡ length front → (take end items ≡ front) × (drop end items ≡ text)
cut_at_front_is_front_and_text items front text end same at =
    (rw (same, at) (grind (arith, common_steps)), rw (same, at) (grind (arith, common_steps)))

-- a writer whose arguments are in their classes, and whose message is within the limit, fails only if memory runs out
pub written_unless_full : {T P Z : Type 0} {result : Result T WriteFault} {old new : Vec ℕ Z} {text : P → List ℕ}
    {IsMessage : List ℕ → P → Type 0} {p : P} {CanBe : Type 0} → IsMessageWritten result old new text IsMessage p CanBe
    → CanBe → (max_message_len < length (text p) → ⊥) → IsWrittenUnlessFull result old new text IsMessage p
written_unless_full written can fits = record {
  appended = written.appended;
  is_message = written.is_message;
  unwritable = λ refused. written.unwritable refused can;
  over_limit = λ over. fits (written.over_limit over).1;
  no_memory = written.no_memory;
}

-- the empty text is a text of extensions: of none
pub empty_is_extension_text : IsExtensionText []
empty_is_extension_text = record { utf8_text = empty_is_text; each = tt }

-- a nonce, a salt and a count within their bounds can be written as server-first
pub challenge_can_be_written : (nonce salt : List ℕ) (count : ℕ)
    → IsNonce max_nonce_len nonce → IsField max_salt_len salt → 1 ≤ count → count < 2 ^ 32 → CanBeServerFirst nonce salt count []
challenge_can_be_written nonce salt count is_nonce is_salt least most =
    record {
      nonce_class = is_nonce;
      salt_class = is_salt;
      count_class = record { at_least = least; at_most = omega arith };
      extensions_class = empty_is_extension_text;
    }

-- the server-first of a nonce, a salt and a count within their bounds is not longer than the longest message
pub challenge_fits : (nonce salt : List ℕ) (count : ℕ)
    → IsNonce max_nonce_len nonce → IsField max_salt_len salt → count < 2 ^ 32
    → max_message_len < length (server_first_text (server_first_of nonce salt count []))
    → ⊥
challenge_fits nonce salt count is_nonce is_salt most over =
    let composed = simp length-append at (ap length (pieces_compose_server_first nonce salt count [])) in
    let digits : length (decimal count) ≤ 10 = length-decimal-le 10 count (omega arith) (omega arith) (omega arith) in
    omega (arith, composed, digits, over, is_nonce.at_most, is_salt.at_most, length-base64 salt)

-- a signature within its bounds can be written as server-final
pub signature_can_be_written : (signature : List ℕ) → IsField max_tag_len signature → CanBeServerFinal (verifier signature) []
signature_can_be_written signature is_field = record { verifier_or_error_class = is_field; extensions_class = empty_is_extension_text }

-- the server-final of a signature of at most the longest tag's length has at most the longest message's length
pub signature_is_short : (signature : List ℕ)
    → length signature ≤ max_tag_len → length (server_final_text (server_final_of (verifier signature) [])) ≤ max_message_len
unfolding server_final_text
signature_is_short signature most = omega (arith, most, length-base64 signature)

-- the server-final of a signature of at most the longest tag's length is not longer than the longest message
pub signature_fits : (signature : List ℕ)
    → length signature ≤ max_tag_len → max_message_len < length (server_final_text (server_final_of (verifier signature) [])) → ⊥
signature_fits signature most over = omega (arith, over, signature_is_short signature most)

-- a refusal's value can be the error of server-final
error_value_can_be_error : (r : Refusal) → CanBeVerifierOrError (server_error (error_value r))
error_value_can_be_error InvalidEncoding = (record { at_least = omega arith; no_comma = refl }, plain_is_text _ refl)
error_value_can_be_error ExtensionsNotSupported = (record { at_least = omega arith; no_comma = refl }, plain_is_text _ refl)
error_value_can_be_error OtherNonce = (record { at_least = omega arith; no_comma = refl }, plain_is_text _ refl)
error_value_can_be_error Channel = (record { at_least = omega arith; no_comma = refl }, plain_is_text _ refl)
error_value_can_be_error InvalidProof = (record { at_least = omega arith; no_comma = refl }, plain_is_text _ refl)
error_value_can_be_error NotAuthorised = (record { at_least = omega arith; no_comma = refl }, plain_is_text _ refl)

-- a refusal's value can be written as server-final
pub refusal_can_be_written : (r : Refusal) → CanBeServerFinal (server_error (error_value r)) []
refusal_can_be_written r = record { verifier_or_error_class = error_value_can_be_error r; extensions_class = empty_is_extension_text }

-- a refusal's value has at most 30 bytes
error_value_is_short : (r : Refusal) → length (error_value r) ≤ 30
error_value_is_short InvalidEncoding = omega arith
error_value_is_short ExtensionsNotSupported = omega arith
error_value_is_short OtherNonce = omega arith
error_value_is_short Channel = omega arith
error_value_is_short InvalidProof = omega arith
error_value_is_short NotAuthorised = omega arith

-- the server-final message of a refusal is within the limit
pub refusal_fits : (r : Refusal) → max_message_len < length (server_final_text (server_final_of (server_error (error_value r)) [])) → ⊥
refusal_fits r over =
    let composed = simp length-append at (ap length (pieces_compose_server_final (server_error (error_value r)) [])) in
    omega (arith, composed, over, error_value_is_short r)
