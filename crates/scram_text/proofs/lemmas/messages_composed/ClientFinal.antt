-- What is written as client-final, with its proof and before it, is the text of its parts, and a message.
use Rattle.std.proofs.Common.{◌≡◌, ℕ, ◌≤◌, List, [], ◌∷◌, ◌++◌, length, length-append, refl, sym, ◌∙◌, ap, arith, subst, append_assoc}
use Rattle.std.specs.Prelude.{codes}
use Rattle.std.specs.Str.{byte}
use Rattle.base64.specs.GeneralPurpose.{IsBytes}
use Rattle.scram_text.specs.Limits.{max_message_len, max_nonce_len, max_tag_len}
use Rattle.scram_text.specs.Class.{IsUtf8Text}
use Rattle.scram_text.specs.Base64Field.{base64, IsField}
use Rattle.scram_text.specs.Messages.{ClientFinalParts, client_final_without_proof, client_final_text, IsClientFinal}
use Rattle.scram_text.specs.Draft.{after_comma}
use Rattle.scram_text.specs.Written.{client_final_of, CanBeClientFinal, CanBeClientFinalWithoutProof, IsClientFinalWithoutProof}
use Rattle.scram_text.specs.declared.client_final.ClientFinalWithoutProof.{ClientFinalWithoutProof}
use Rattle.scram_text.proofs.lemmas.Texts.{IsUtf8Text-append, plain_is_text, nonce_is_text, base64_is_text}
use Rattle.scram_text.proofs.lemmas.messages_composed.Joined.{extensions_join_after_comma, after_comma_is_text}

-- pieces joined one after another are one text, however they are grouped
client_final_pieces_regroup : (a b c n e : List ℕ) → (((a ++ b) ++ c) ++ n) ++ e ≡ (a ++ b) ++ (c ++ (n ++ e))
client_final_pieces_regroup a b c n e = simp append_assoc

-- what is written before the proof is client-final before its proof
pub pieces_compose_without_proof : (channel nonce extensions proof : List ℕ)
    → (((codes "c=" ++ base64 channel) ++ codes ",r=") ++ nonce) ++ after_comma extensions
    ≡ client_final_without_proof (client_final_of channel nonce extensions proof)
unfolding client_final_without_proof
pieces_compose_without_proof channel nonce extensions proof =
    client_final_pieces_regroup (codes "c=") (base64 channel) (codes ",r=") nonce (after_comma extensions)
    ∙ ap (λ (t : List ℕ). (codes "c=" ++ base64 channel) ++ byte "," ∷ t)
    (sym (extensions_join_after_comma (codes "r=" ++ nonce) extensions))

-- client-final before its proof is a text
pub without_proof_is_text : (channel nonce extensions proof : List ℕ) → IsBytes channel
    → CanBeClientFinalWithoutProof channel nonce extensions
    → IsUtf8Text (client_final_without_proof (client_final_of channel nonce extensions proof))
without_proof_is_text channel nonce extensions proof bytes can =
    let lead = IsUtf8Text-append (codes "c=") (base64 channel) (plain_is_text (codes "c=") refl) (base64_is_text channel bytes) in
    let middle = IsUtf8Text-append _ nonce (IsUtf8Text-append _ (codes ",r=") lead (plain_is_text (codes ",r=") refl))
    (nonce_is_text max_nonce_len nonce can.nonce_class) in
    subst IsUtf8Text (pieces_compose_without_proof channel nonce extensions proof)
    (IsUtf8Text-append _ (after_comma extensions) middle (after_comma_is_text extensions can.extensions_class.utf8_text))

-- client-final before its proof, `,p=` and the proof are client-final
pub pieces_compose_client_final : (p : ClientFinalParts) (without_proof proof : List ℕ)
    → without_proof ≡ client_final_without_proof p → p.proof ≡ proof
    → (without_proof ++ codes ",p=") ++ base64 proof ≡ client_final_text p
unfolding client_final_text
pieces_compose_client_final p without_proof proof held same =
    append_assoc without_proof (codes ",p=") (base64 proof) ∙ (λ i. held i ++ (codes ",p=" ++ base64 (sym same i)))

-- client-final is a text, if what comes before its proof is one
with_proof_is_text : (p : ClientFinalParts) → IsUtf8Text (client_final_without_proof p) → IsBytes p.proof → IsUtf8Text (client_final_text p)
unfolding client_final_text
with_proof_is_text p text bytes =
    IsUtf8Text-append (client_final_without_proof p) (codes ",p=" ++ base64 p.proof) text
    (IsUtf8Text-append (codes ",p=") (base64 p.proof) (plain_is_text (codes ",p=") refl) (base64_is_text p.proof bytes))

-- what was written before the proof, with the proof, is a client-final message, if it is within the limit
pub with_proof_is_client_final : (w : ClientFinalWithoutProof) (p : ClientFinalParts) (proof : List ℕ) → IsClientFinalWithoutProof w p
    → p.proof ≡ proof
    → IsBytes proof → IsField max_tag_len proof → length (client_final_text p) ≤ max_message_len → IsClientFinal (client_final_text p) p
with_proof_is_client_final w p proof is same bytes field short = record {
  spelled = refl;
  channel = is.channel;
  nonce = is.nonce;
  extensions = is.extensions;
  proof = subst (IsField max_tag_len) (sym same) field;
  utf8_text = with_proof_is_text p is.utf8_text (subst IsBytes (sym same) bytes);
  short = short;
}

-- the message is no shorter than the text before its proof
pub with_proof_is_no_shorter : (channel nonce extensions proof : List ℕ)
    → length (client_final_without_proof (client_final_of channel nonce extensions []))
    ≤ length (client_final_text (client_final_of channel nonce extensions proof))
unfolding client_final_text client_final_without_proof
with_proof_is_no_shorter channel nonce extensions proof =
    omega (
      arith,
      length-append (client_final_without_proof (client_final_of channel nonce extensions proof))
          (byte "," ∷ (codes "p=" ++ base64 proof)),
    )

-- the text of what can be written as client-final is a client-final message, if it is within the limit
pub written_is_client_final : (channel nonce extensions proof : List ℕ) → IsBytes channel → IsBytes proof
    → CanBeClientFinal channel nonce extensions proof
    → length (client_final_text (client_final_of channel nonce extensions proof)) ≤ max_message_len
    → IsClientFinal (client_final_text (client_final_of channel nonce extensions proof)) (client_final_of channel nonce extensions proof)
written_is_client_final channel nonce extensions proof channel_bytes proof_bytes can short = record {
  spelled = refl;
  channel = can.without_proof.channel_class;
  nonce = can.without_proof.nonce_class;
  extensions = can.without_proof.extensions_class.each;
  proof = can.proof_class;
  utf8_text = with_proof_is_text (client_final_of channel nonce extensions proof)
      (without_proof_is_text channel nonce extensions proof channel_bytes can.without_proof) proof_bytes;
  short = short;
}
