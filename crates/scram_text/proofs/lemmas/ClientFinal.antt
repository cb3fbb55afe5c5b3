-- The parts of client-final: they are read in only one way, and a text that has them has no fault.
use Rattle.std.proofs.Common.{◌≡◌, inr, ℕ, ◌+◌, ◌≤◌, List, [], ◌∷◌, ◌++◌, length, replicate, refl, sym, ◌∙◌, ap, arith, length-append}
use Rattle.std.specs.Prelude.{codes, IfOk, IfErr, IsOkAnd}
use Rattle.std.specs.declared.result.Result.{Result}
use Rattle.std.proofs.lemmas.List.Splits.{join_with_byte-slice_split}
use Rattle.std.proofs.lemmas.List.{same_from_push}
use Rattle.std.specs.Str.{byte}
use Rattle.scram_text.specs.Limits.{max_channel_len, max_message_len, max_nonce_len, max_tag_len}
use Rattle.scram_text.specs.Class.{IsNonce, IsUtf8Text}
use Rattle.scram_text.specs.Base64Field.{base64, IsField}
use Rattle.scram_text.specs.Parts.{parts, joined, AreExtensions}
use Rattle.scram_text.specs.Messages.{ClientFinalParts, client_final_without_proof, client_final_text, IsClientFinal}
use Rattle.scram_text.specs.Laws.{HasOneClientFinal}
use Rattle.scram_text.specs.Faults.{Fits, fault, places, IsFirstMisfit, IsClientFinalFault}
use Rattle.scram_text.specs.inner.Pieces.{IsExtensionMisfit}
use Rattle.scram_text.specs.Shown.{ShowsClientFinal}
use Rattle.scram_text.specs.declared.client_final.ClientFinal.{ClientFinal}
use Rattle.scram_text.specs.declared.fault.TextFault.{TextFault}
use Rattle.scram_text.specs.declared.fault.TextWhy.TheVariants.{Channel, Nonce, Extension, Proof}
use Rattle.scram_text.proofs.lemmas.Base64.{base64_lacks_comma}
use Rattle.scram_text.proofs.lemmas.Parts.{parts-append, text_without_comma_is_one_part, unfit_part_is_misfit, fitting_part_keeps_misfit}
use Rattle.scram_text.proofs.lemmas.Places.{part_fault_is_fault, AllFit, AllFit-cons, AllFit-nil, places_unfold, later_parts_keep_misfit}
use Rattle.scram_text.proofs.lemmas.Places.{extensions_keep_misfit, extensions_keep_fit, fitting_text_has_no_fault, nonce_lacks_comma}
use Rattle.scram_text.proofs.lemmas.Places.{extensions_lack_comma, parts-joined, field_part_spells_field, one_field_per_base64}
use Rattle.scram_text.proofs.lemmas.ReadMessages.{message_is_read}

-- the parts, with their letters, of the client-final message that has these values
abbrev pub client_final_parts : ClientFinalParts → List (List ℕ)
client_final_parts p =
    (codes "c=" ++ base64 p.channel) ∷ (codes "r=" ++ p.nonce) ∷ (p.extensions ++ (codes "p=" ++ base64 p.proof) ∷ [])

-- client-final before its proof is cut into its channel field, its nonce and its extensions
parts-client_final_without_proof : (p : ClientFinalParts) → IsField max_channel_len p.channel → IsNonce max_nonce_len p.nonce
    → AreExtensions p.extensions
    → parts (client_final_without_proof p) ≡ (codes "c=" ++ base64 p.channel) ∷ (codes "r=" ++ p.nonce) ∷ p.extensions
unfolding client_final_without_proof
parts-client_final_without_proof p channel nonce extensions =
    parts-joined (codes "c=" ++ base64 p.channel) ((codes "r=" ++ p.nonce) ∷ p.extensions) (
      base64_lacks_comma p.channel channel.each,
      (nonce_lacks_comma max_nonce_len p.nonce nonce, extensions_lack_comma p.extensions extensions),
    )

-- a client-final message is cut into its parts
pub parts-client_final : (text : List ℕ) (p : ClientFinalParts) → IsClientFinal text p → parts text ≡ client_final_parts p
unfolding client_final_text
parts-client_final text p is =
    rw (is.spelled) (rw (
      parts-append (client_final_without_proof p) (codes "p=" ++ base64 p.proof),
      parts-client_final_without_proof p is.channel is.nonce is.extensions,
      text_without_comma_is_one_part (codes "p=" ++ base64 p.proof) (base64_lacks_comma p.proof is.proof.each),
    ) refl)

-- the parts of client-final are the same if each of them is
same_fields_make_same_parts : (p q : ClientFinalParts) → p.channel ≡ q.channel → p.nonce ≡ q.nonce → p.extensions ≡ q.extensions
    → p.proof ≡ q.proof → p ≡ q
same_fields_make_same_parts p q channel nonce extensions proof =
    λ i. record { channel = channel i; nonce = nonce i; extensions = extensions i; proof = proof i }

-- the law: a text is client-final with at most one list of parts
pub has_one_client_final : HasOneClientFinal
has_one_client_final text p q is also =
    let same : client_final_parts p ≡ client_final_parts q = sym (parts-client_final text p is) ∙ parts-client_final text q also in
    let channels : base64 p.channel ≡ base64 q.channel = cc same in
    let nonces : p.nonce ≡ q.nonce = cc same in
    let rest : p.extensions ++ (codes "p=" ++ base64 p.proof) ∷ [] ≡ q.extensions ++ (codes "p=" ++ base64 q.proof) ∷ [] = cc same in
    let ends = same_from_push p.extensions q.extensions _ _ rest in
    let proofs : base64 p.proof ≡ base64 q.proof = cc (ends.1) in
    let channel = one_field_per_base64 max_channel_len p.channel q.channel is.channel also.channel channels in
    let proof = one_field_per_base64 max_tag_len p.proof q.proof is.proof also.proof proofs in
    same_fields_make_same_parts p q channel nonces ends.0 proof

-- the places of client-final's parts are Channel, Nonce, one Extension for each extension, and Proof
pub client_final_places_unfold : (channel nonce proof : List ℕ) (extensions : List (List ℕ))
    → places (Channel ∷ Nonce ∷ []) (Proof ∷ []) (length (channel ∷ nonce ∷ (extensions ++ proof ∷ [])))
    ≡ Channel ∷ Nonce ∷ (replicate (length extensions) Extension ++ Proof ∷ [])
client_final_places_unfold channel nonce proof extensions =
    places_unfold (Channel ∷ Nonce ∷ []) (Proof ∷ []) _ (length extensions) (omega (arith, length-append extensions (proof ∷ [])))

-- if the channel field, the nonce and the proof of client-final fit, and the parts between are extensions, all fit their places
channel_nonce_proof_fit : (channel nonce proof : List ℕ) (extensions : List (List ℕ))
    → Fits max_nonce_len Channel channel → Fits max_nonce_len Nonce nonce → AreExtensions extensions → Fits max_nonce_len Proof proof
    → AllFit max_nonce_len (places (Channel ∷ Nonce ∷ []) (Proof ∷ []) (length (channel ∷ nonce ∷ (extensions ++ proof ∷ []))))
    (channel ∷ nonce ∷ (extensions ++ proof ∷ []))
channel_nonce_proof_fit channel nonce proof extensions is_channel is_nonce are is_proof =
    rw (client_final_places_unfold channel nonce proof extensions)
    (AllFit-cons max_nonce_len Channel _ channel _ is_channel (AllFit-cons max_nonce_len Nonce _ nonce _ is_nonce
    (extensions_keep_fit max_nonce_len (Proof ∷ []) extensions (proof ∷ []) are
    (AllFit-cons max_nonce_len Proof [] proof [] is_proof (AllFit-nil max_nonce_len [])))))

-- the parts of a client-final message fit their places
pub client_final_parts_fit : (p : ClientFinalParts) → IsField max_channel_len p.channel → IsNonce max_nonce_len p.nonce
    → AreExtensions p.extensions → IsField max_tag_len p.proof
    → AllFit max_nonce_len (places (Channel ∷ Nonce ∷ []) (Proof ∷ []) (length (client_final_parts p))) (client_final_parts p)
client_final_parts_fit p channel nonce extensions proof =
    channel_nonce_proof_fit _ _ _ p.extensions (field_part_spells_field 99 max_channel_len _ p.channel refl channel)
    (p.nonce, refl, nonce) extensions
    (field_part_spells_field (byte "p") max_tag_len _ p.proof refl proof)

-- a client-final message has no fault
client_final_has_no_fault : (text : List ℕ) (p : ClientFinalParts) (f : TextFault) → IsClientFinal text p → IsClientFinalFault text f → ⊥
client_final_has_no_fault text p f is =
    fitting_text_has_no_fault max_nonce_len (λ _. Channel ∷ Nonce ∷ []) (Proof ∷ []) text (client_final_parts p) f is.short is.utf8_text
    (parts-client_final text p is)
    (omega (arith, length-append p.extensions ((codes "p=" ++ base64 p.proof) ∷ [])))
    (client_final_parts_fit p is.channel is.nonce is.extensions is.proof)

-- client-final's pieces make the text before its proof, and the whole text
pub pieces_spell_client_final : (text without_proof last channel_part nonce_part : List ℕ) (p : ClientFinalParts)
    → text ≡ without_proof ++ byte "," ∷ last → parts without_proof ≡ channel_part ∷ nonce_part ∷ p.extensions
    → channel_part ≡ codes "c=" ++ base64 p.channel → nonce_part ≡ codes "r=" ++ p.nonce → last ≡ codes "p=" ++ base64 p.proof
    → (without_proof ≡ client_final_without_proof p) × (text ≡ client_final_text p)
unfolding client_final_without_proof client_final_text
pieces_spell_client_final text without_proof last channel_part nonce_part p whole cut is_channel is_nonce is_proof =
    let pieces : channel_part ∷ nonce_part ∷ p.extensions ≡ (codes "c=" ++ base64 p.channel) ∷ (codes "r=" ++ p.nonce)
    ∷ p.extensions = cc (is_channel, is_nonce) in
    let without_proof_is : without_proof ≡ client_final_without_proof p =
    sym (join_with_byte-slice_split (byte ",") without_proof) ∙ ap joined (cut ∙ pieces) in
    (without_proof_is, rw (whole, without_proof_is, is_proof) refl)

-- a text that is client-final is read, and what is read shows its parts
pub client_final_is_read : (text : List ℕ) (r : Result ClientFinal TextFault)
    → IfOk r (λ m. (p : ClientFinalParts) × IsClientFinal text p × ShowsClientFinal m p) → IfErr r (λ f. IsClientFinalFault text f)
    → (p : ClientFinalParts) → IsClientFinal text p → IsOkAnd r (λ m. ShowsClientFinal m p)
client_final_is_read text r =
    message_is_read (IsClientFinal text) ShowsClientFinal (IsClientFinalFault text) r
    (has_one_client_final text) (client_final_has_no_fault text)

-- the first part of client-final that does not fit is a fault of the text
module _ (text channel nonce proof : List ℕ) (extensions : List (List ℕ)) (short : length text ≤ max_message_len)
    (utf8_text : IsUtf8Text text) (cut : parts text ≡ channel ∷ nonce ∷ (extensions ++ proof ∷ [])) where
  -- the first misfit of the parts is a fault of the text
  client_final_misfit_is_fault : (f : TextFault)
      → IsFirstMisfit max_nonce_len (Channel ∷ Nonce ∷ (replicate (length extensions) Extension ++ Proof ∷ [])) 0
      (channel ∷ nonce ∷ (extensions ++ proof ∷ [])) f
      → IsClientFinalFault text f
  client_final_misfit_is_fault f misfit =
      part_fault_is_fault max_nonce_len (λ _. Channel ∷ Nonce ∷ []) (Proof ∷ []) text (channel ∷ nonce ∷ (extensions ++ proof ∷ [])) f
      short utf8_text cut
      (inr (
        omega (arith, length-append extensions (proof ∷ [])),
        rw (client_final_places_unfold channel nonce proof extensions) misfit,
      ))

  -- a channel field that does not fit is the fault of the text
  pub unfit_channel_is_fault : (Fits max_nonce_len Channel channel → ⊥) → IsClientFinalFault text (fault 0 Channel)
  unfit_channel_is_fault no_channel =
      client_final_misfit_is_fault _
      (unfit_part_is_misfit max_nonce_len 0 Channel _ channel _ no_channel)

  -- if the channel field fits, a nonce that does not is the fault of the text
  pub unfit_nonce_is_fault : Fits max_nonce_len Channel channel → (Fits max_nonce_len Nonce nonce → ⊥)
      → IsClientFinalFault text (fault 1 Nonce)
  unfit_nonce_is_fault is_channel no_nonce =
      client_final_misfit_is_fault _
      (fitting_part_keeps_misfit max_nonce_len 0 Channel _ channel _ _ is_channel
      (unfit_part_is_misfit max_nonce_len 1 Nonce _ nonce _ no_nonce))

  -- if the channel field and the nonce fit, the first extension that does not is the fault of the text
  pub extension_misfit_is_fault : (f : TextFault) → Fits max_nonce_len Channel channel → Fits max_nonce_len Nonce nonce
      → IsExtensionMisfit 2 extensions f → IsClientFinalFault text f
  extension_misfit_is_fault f is_channel is_nonce misfit =
      client_final_misfit_is_fault f
      (fitting_part_keeps_misfit max_nonce_len 0 Channel _ channel _ f is_channel
      (fitting_part_keeps_misfit max_nonce_len 1 Nonce _ nonce _ f is_nonce
      (later_parts_keep_misfit max_nonce_len (replicate (length extensions) Extension) (Proof ∷ []) 2 extensions (proof ∷ []) f
      (misfit max_nonce_len))))

  -- if all parts before the proof fit, a proof that does not is the fault of the text
  pub unfit_proof_is_fault : (k : ℕ) → Fits max_nonce_len Channel channel → Fits max_nonce_len Nonce nonce → AreExtensions extensions
      → (Fits max_nonce_len Proof proof → ⊥) → k ≡ 2 + length extensions → IsClientFinalFault text (fault k Proof)
  unfit_proof_is_fault k is_channel is_nonce are no_proof at =
      client_final_misfit_is_fault _
      (fitting_part_keeps_misfit max_nonce_len 0 Channel _ channel _ _ is_channel
      (fitting_part_keeps_misfit max_nonce_len 1 Nonce _ nonce _ _ is_nonce
      (extensions_keep_misfit max_nonce_len (Proof ∷ []) 2 k extensions (proof ∷ []) _ at are
      (unfit_part_is_misfit max_nonce_len k Proof [] proof [] no_proof))))
