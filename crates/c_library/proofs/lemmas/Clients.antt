-- A client's answer is its client-final message, which has room.
use Rattle.std.proofs.Common.{◌≡◌, ◌≤◌, ℕ, List, ◌++◌, length, take, sym, ◌∙◌, ap, arith, length-append}
use Rattle.std.specs.Prelude.{codes}
use Rattle.std.proofs.lemmas.List.{take-append-le, take_all}
use Rattle.mac_core.specs.Mechanism.{digest_len_by}
use Rattle.mac_core.specs.declared.mechanism.Mechanism.{Mechanism}
use Rattle.mac_core.proofs.lemmas.Lengths.{length-hmac_by}
use Rattle.scram_text.specs.Base64Field.{base64}
use Rattle.scram_text.specs.Limits.{max_message_len, max_tag_len}
use Rattle.scram_text.specs.Messages.{ClientFinalParts, client_final_without_proof, client_final_text}
use Rattle.scram_text.proofs.lemmas.messages_composed.ClientFinal.{pieces_compose_client_final}
use Rattle.scram_ends.specs.Stages.{Answered}
use Rattle.scram_ends.specs.Client.{IsAnswer}
use Rattle.scram_ends.specs.declared.client.ClientAnswer.{ClientAnswer}
use Rattle.c_library.specs.Buffers.{IsPadded}
use Rattle.c_library.specs.Clients.{signature_in}

-- a message before its proof is no longer than with it
without_proof_is_no_longer : (p : ClientFinalParts) → length (client_final_without_proof p) ≤ length (client_final_text p)
unfolding client_final_text
without_proof_is_no_longer p = omega (arith, length-append (client_final_without_proof p) (codes ",p=" ++ base64 p.proof))

-- an answer's message before its proof, and its proof, are no longer than these may be
pub answer_is_short : (answer : ClientAnswer) (login : Answered) (is : IsAnswer answer login) (without_proof : List ℕ)
    → without_proof ≡ client_final_without_proof is.honest.final
    → (length without_proof ≤ max_message_len) × (length answer.proof.items ≤ max_tag_len)
answer_is_short answer login is without_proof same =
    let final = is.honest.is_final.is_final in (
      omega (arith, ap length same, without_proof_is_no_longer is.honest.final, ap length final.spelled, final.short),
      omega (arith, ap length is.proof, final.proof.at_most),
    )

-- an answer's message before its proof, `,p=` and its proof are its client-final message
pub answer_composes : (answer : ClientAnswer) (login : Answered) (is : IsAnswer answer login) (without_proof proof : List ℕ)
    → without_proof ≡ client_final_without_proof is.honest.final → proof ≡ answer.proof.items
    → (without_proof ++ codes ",p=") ++ base64 proof ≡ login.client_final
answer_composes answer login is without_proof proof same also =
    pieces_compose_client_final is.honest.final without_proof proof same (sym (also ∙ is.proof))
    ∙ sym is.honest.is_final.is_final.spelled

-- the signature that an answer expects has the length of the mechanism's digests
pub expected_has_length : (answer : ClientAnswer) (login : Answered) (is : IsAnswer answer login)
    → length answer.expected.items ≡ digest_len_by login.mechanism
expected_has_length answer login is = ap length is.expected ∙ length-hmac_by login.mechanism _ _

-- bytes that have a signature of the length of the mechanism's digests, and zeros after it, have this signature
pub padded_has_signature : (mechanism : Mechanism) (bytes signature : List ℕ)
    → IsPadded 32 bytes signature → length signature ≡ digest_len_by mechanism → signature_in mechanism bytes ≡ signature
padded_has_signature mechanism bytes signature padded long =
    ap (λ (b : List ℕ). take (digest_len_by mechanism) b) padded
    ∙ take-append-le (digest_len_by mechanism) signature _ (omega (arith, long))
    ∙ take_all (digest_len_by mechanism) signature (omega (arith, long))
