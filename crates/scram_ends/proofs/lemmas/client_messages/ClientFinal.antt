-- The client-final message: it can be written, and is within the limit.
use Rattle.std.proofs.Common.{◌≡◌, ℕ, ◌+◌, ◌*◌, ◌<◌, ◌≤◌, List, [], ◌∷◌, ◌++◌, length, length-append, sym, ◌∙◌, ap, subst, refl, arith}
use Rattle.std.specs.Prelude.{codes}
use Rattle.std.specs.declared.result.Result.{Result}
use Rattle.std.specs.declared.result.Result.TheVariants.{Err}
use Rattle.std.specs.Str.{byte}
use Rattle.mac_core.proofs.lemmas.Digests.{AreBytes}
use Rattle.scram_text.specs.Limits.{max_channel_len, max_message_len, max_nonce_len, max_tag_len}
use Rattle.scram_text.specs.Class.{IsNonce}
use Rattle.scram_text.specs.Base64Field.{base64, IsField}
use Rattle.scram_text.specs.Messages.{client_final_without_proof, ClientFinalParts, client_final_text}
use Rattle.scram_text.specs.Written.{client_final_of, CanBeClientFinal, CanBeClientFinalWithoutProof, IsClientFinalWithoutProof}
use Rattle.scram_text.specs.declared.fault.WriteFault.{WriteFault}
use Rattle.scram_text.specs.declared.fault.WriteFault.TheVariants.{Unwritable, OverLimit, NoMemory}
use Rattle.scram_text.specs.declared.client_final.ClientFinalWithoutProof.{ClientFinalWithoutProof}
use Rattle.scram_text.proofs.lemmas.Base64.{length-base64, bytes_are_field}
use Rattle.scram_text.proofs.lemmas.Texts.{empty_is_text}
use Rattle.scram_ends.specs.Honest.{max_honest_final_len}
use Rattle.scram_ends.specs.declared.lengths.TheConstants.{MAX_HEADER_LEN}
use Rattle.scram_ends.proofs.lemmas.client_messages.WriteFaults.{write_fault_is_memory}

-- a header and a nonce within their bounds can be written before the proof
without_proof_can_be_written : (header nonce : List ℕ)
    → AreBytes header → 1 ≤ length header → length header ≤ MAX_HEADER_LEN → IsNonce max_nonce_len nonce
    → CanBeClientFinalWithoutProof header nonce []
without_proof_can_be_written header nonce bytes some short is_nonce = record {
  channel_class = bytes_are_field max_channel_len header bytes some (omega (arith, short));
  nonce_class = is_nonce;
  extensions_class = record { utf8_text = empty_is_text; each = tt };
}

-- a header, a nonce and a proof within their bounds can be written as client-final
pub client_final_can_be_written : (header nonce proof : List ℕ)
    → AreBytes header → AreBytes proof → 1 ≤ length header → length header ≤ MAX_HEADER_LEN → IsNonce max_nonce_len nonce → 1 ≤ length proof
    → length proof ≤ max_tag_len
    → CanBeClientFinal header nonce [] proof
client_final_can_be_written header nonce proof bytes also some short is_nonce some_proof short_proof = record {
  without_proof = without_proof_can_be_written header nonce bytes some short is_nonce;
  proof_class = bytes_are_field max_tag_len proof also some_proof short_proof;
}

-- the length of a client-final message is that of its channel field, nonce and proof, plus two commas
length-client_final : (c n p : List ℕ) → length ((c ++ byte "," ∷ n) ++ byte "," ∷ p) ≡ length c + length n + length p + 2
length-client_final c n p = omega (arith, length-append (c ++ byte "," ∷ n) (byte "," ∷ p), length-append c (byte "," ∷ n))

-- the base64 of a header and of a proof, each after its two bytes of name, the nonce after its own, and two commas make no more than a
-- message may have
final_parts_are_short : (c n p : ℕ) → c ≤ 4 * 257 + 2 → n ≤ max_nonce_len + 2 → p ≤ 4 * 22 + 2 → c + n + p + 2 ≤ max_message_len
final_parts_are_short c n p channel nonce proof = omega arith

-- the base64 of at most 3 n bytes has at most 4 n bytes
base64_is_short : (bytes : List ℕ) (most : ℕ) → length bytes ≤ 3 * most → length (base64 bytes) ≤ 4 * most
base64_is_short bytes most within = omega (arith, length-base64 bytes)

-- a client-final message of a header, a nonce and a proof within their bounds is no longer than a message may be
pub client_final_is_short : (header nonce proof : List ℕ)
    → length header ≤ MAX_HEADER_LEN → length nonce ≤ max_nonce_len → length proof ≤ max_tag_len
    → length (client_final_text (client_final_of header nonce [] proof)) ≤ max_message_len
unfolding client_final_text client_final_without_proof
client_final_is_short header nonce proof short is_nonce is_proof =
    subst (λ (k : ℕ). k ≤ max_message_len)
    (sym (length-client_final (codes "c=" ++ base64 header) (codes "r=" ++ nonce) (codes "p=" ++ base64 proof)))
    (final_parts_are_short _ _ _ (omega (arith, base64_is_short header 257 (omega arith))) (omega arith)
    (omega (arith, base64_is_short proof 22 (omega arith))))

-- a client-final message of a header and a nonce within their bounds and a proof of at most 32 bytes has at most the bytes of one of an
-- honest client
pub length-client_final_text : (header nonce proof : List ℕ)
    → length header ≤ MAX_HEADER_LEN → length nonce ≤ max_nonce_len → length proof ≤ 32
    → length (client_final_text (client_final_of header nonce [] proof)) ≤ max_honest_final_len
unfolding client_final_text client_final_without_proof
length-client_final_text header nonce proof short is_nonce is_proof =
    omega (
      arith,
      length-client_final (codes "c=" ++ base64 header) (codes "r=" ++ nonce) (codes "p=" ++ base64 proof),
      base64_is_short header 257 (omega arith),
      base64_is_short proof 11 (omega arith),
    )

-- client-final before its proof is no longer than a message may be
pub without_proof_is_short : (header nonce : List ℕ) → length header ≤ MAX_HEADER_LEN → length nonce ≤ max_nonce_len
    → length (client_final_without_proof (client_final_of header nonce [] [])) ≤ max_message_len
unfolding client_final_without_proof
without_proof_is_short header nonce short is_nonce =
    omega (arith, length-append (codes "c=" ++ base64 header) (byte "," ∷ (codes "r=" ++ nonce)), base64_is_short header 257 (omega arith))

-- client-final before its proof is the same for each proof
pub without_proof_is_same : (header nonce proof : List ℕ)
    → client_final_without_proof (client_final_of header nonce [] []) ≡ client_final_without_proof (client_final_of header nonce [] proof)
unfolding client_final_without_proof
without_proof_is_same header nonce proof = refl

-- client-final before its proof can't fail to be written if memory does not run out
pub without_proof_never_fails : {T : Type 0} (r : Result T WriteFault) (f : WriteFault) (header nonce : List ℕ) → r ≡ Err f
    → AreBytes header → 1 ≤ length header → length header ≤ MAX_HEADER_LEN → IsNonce max_nonce_len nonce
    → (r ≡ Err Unwritable → CanBeClientFinalWithoutProof header nonce [] → ⊥)
    → (r ≡ Err OverLimit → CanBeClientFinalWithoutProof header nonce []
    × (max_message_len < length (client_final_without_proof (client_final_of header nonce [] []))))
    → (r ≡ Err NoMemory → ⊥) → ⊥
without_proof_never_fails r f header nonce failed bytes some short is_nonce unwritable over no_memory =
    let full : f ≡ NoMemory = write_fault_is_memory r f failed (λ e. unwritable e
    (without_proof_can_be_written header nonce bytes some short is_nonce))
    (λ e. let long = over e in omega (arith, long.1, without_proof_is_short header nonce short is_nonce.at_most)) in
    no_memory (failed ∙ ap (λ (x : WriteFault). Err x) full)

-- if client-final with its proof fails to be written, memory has run out
pub client_final_fault_is_memory : {T : Type 0} (r : Result T WriteFault) (f : WriteFault) (w : ClientFinalWithoutProof)
    (header nonce proof : List ℕ)
    → r ≡ Err f
    → length header ≤ MAX_HEADER_LEN → IsNonce max_nonce_len nonce → IsField max_tag_len proof
    → IsClientFinalWithoutProof w (client_final_of header nonce [] proof)
    → (r ≡ Err Unwritable → IsField max_tag_len proof → ⊥)
    → (r ≡ Err OverLimit → IsField max_tag_len proof
    × ((p : ClientFinalParts) → IsClientFinalWithoutProof w p → p.proof ≡ proof → max_message_len < length (client_final_text p)))
    → f ≡ NoMemory
client_final_fault_is_memory r f w header nonce proof failed short is_nonce field is unwritable over =
    write_fault_is_memory r f failed (λ e. unwritable e field)
    (λ e. let long = (over e).1 (client_final_of header nonce [] proof) is refl in omega
    (arith, long, client_final_is_short header nonce proof short is_nonce.at_most field.at_most))
