-- It is decidable whether a text is client-final: it is if its parts all fit their places.
use Rattle.std.proofs.Common.{◌≡◌, ℕ, ◌≤◌, List, [], ◌∷◌, ◌++◌, length, refl, sym, ◌∙◌, ap, arith, subst, length-append}
use Rattle.std.specs.Prelude.{codes}
use Rattle.std.proofs.lemmas.List.Splits.{join_with_byte-slice_split}
use Rattle.std.specs.Str.{byte}
use Rattle.mac_core.proofs.lemmas.Decided.{Decided, decided_equivalent}
use Rattle.scram_text.specs.Limits.{max_message_len, max_nonce_len}
use Rattle.scram_text.specs.Class.{IsUtf8Text}
use Rattle.scram_text.specs.Base64Field.{base64}
use Rattle.scram_text.specs.Parts.{parts, joined}
use Rattle.scram_text.specs.Messages.{ClientFinalParts, client_final_without_proof, client_final_text, IsClientFinal}
use Rattle.scram_text.specs.Faults.{places}
use Rattle.scram_text.specs.Laws.{ClientFinalIsDecided}
use Rattle.scram_text.specs.declared.fault.TextWhy.{TextWhy}
use Rattle.scram_text.specs.declared.fault.TextWhy.TheVariants.{Nonce, Channel, Proof}
use Rattle.scram_text.proofs.lemmas.ListEnds.{nonempty_has_last}
use Rattle.scram_text.proofs.lemmas.Places.{AllFit, first_part_fits, extensions_and_rest_fit}
use Rattle.scram_text.proofs.lemmas.Decided.{some_or_none}
use Rattle.scram_text.proofs.lemmas.ClientFinal.{client_final_parts, parts-client_final, client_final_parts_fit, client_final_places_unfold}
use Rattle.scram_text.proofs.lemmas.messages_composed.Joined.{joined-push}
use Rattle.scram_text.proofs.lemmas.messages_decided.Fitting.{IsFittingText, decided_fitting_text}

-- the parts of client-final, joined by commas, are its text
joined-client_final_parts : (p : ClientFinalParts) → joined (client_final_parts p) ≡ client_final_text p
unfolding client_final_text client_final_without_proof
joined-client_final_parts p = joined-push (codes "c=" ++ base64 p.channel) ((codes "r=" ++ p.nonce) ∷ p.extensions)
    (codes "p=" ++ base64 p.proof)

-- a short text whose parts are those of client-final is one
fitting_parts_are_client_final : (text channel nonce proof : List ℕ) (extensions : List (List ℕ))
    → parts text ≡ channel ∷ nonce ∷ (extensions ++ proof ∷ [])
    → length text ≤ max_message_len → IsUtf8Text text
    → AllFit max_nonce_len (places (Channel ∷ Nonce ∷ []) (Proof ∷ []) (length (channel ∷ nonce ∷ (extensions ++ proof ∷ []))))
    (channel ∷ nonce ∷ (extensions ++ proof ∷ []))
    → (p : ClientFinalParts) × IsClientFinal text p
fitting_parts_are_client_final text channel nonce proof extensions cut short utf8_text fit =
    let placed = subst (λ (ps : List TextWhy). AllFit max_nonce_len ps (channel ∷ nonce ∷ (extensions ++ proof ∷ [])))
    (client_final_places_unfold channel nonce proof extensions) fit in
    let first = first_part_fits max_nonce_len Channel _ channel _ placed in
    let second = first_part_fits max_nonce_len Nonce _ nonce _ first.1 in
    let after = extensions_and_rest_fit max_nonce_len (Proof ∷ []) extensions (proof ∷ []) second.1 in
    let last = first_part_fits max_nonce_len Proof [] proof [] after.1 in
    let (channel_text, channel_is, (channel_bytes, channel_spelled, channel_field)) = first.0 in
    let (nonce_text, nonce_is, nonce_class) = second.0 in
    let (proof_text, proof_is, (proof_bytes, proof_spelled, proof_field)) = last.0 in
    let p : ClientFinalParts = record { channel = channel_bytes; nonce = nonce_text; extensions = extensions; proof = proof_bytes } in
    let pieces : channel ∷ nonce ∷ (extensions ++ proof ∷ [])
    ≡ client_final_parts p = cc (channel_is, channel_spelled, nonce_is, proof_is, proof_spelled) in (
      p,
      record {
        spelled = sym (join_with_byte-slice_split (byte ",") text) ∙ ap joined (cut ∙ pieces) ∙ joined-client_final_parts p;
        channel = channel_field;
        nonce = nonce_class;
        extensions = after.0;
        proof = proof_field;
        utf8_text = utf8_text;
        short = short;
      },
    )

-- a short text with enough parts, which fit those of client-final, is one
fitting_text_is_client_final : (text : List ℕ) (pieces : List (List ℕ)) → parts text ≡ pieces → 3 ≤ length pieces
    → length text ≤ max_message_len
    → IsUtf8Text text
    → AllFit max_nonce_len (places (Channel ∷ Nonce ∷ []) (Proof ∷ []) (length pieces)) pieces → (p : ClientFinalParts)
    × IsClientFinal text p
fitting_text_is_client_final text [] cut enough short utf8_text fit = absurd (omega (arith, enough))
fitting_text_is_client_final text (channel ∷ []) cut enough short utf8_text fit = absurd (omega (arith, enough))
fitting_text_is_client_final text (channel ∷ nonce ∷ []) cut enough short utf8_text fit = absurd (omega (arith, enough))
fitting_text_is_client_final text (channel ∷ nonce ∷ next ∷ rest) cut enough short utf8_text fit =
    let (extensions, proof, same) = nonempty_has_last next rest in
    fitting_parts_are_client_final text channel nonce proof extensions
    (cut ∙ ap (λ (ps : List (List ℕ)). channel ∷ nonce ∷ ps) same) short utf8_text
    (subst (λ (ps : List (List ℕ)). AllFit max_nonce_len (places (Channel ∷ Nonce ∷ []) (Proof ∷ []) (length (channel ∷ nonce ∷ ps)))
    (channel ∷ nonce ∷ ps)) same fit)

-- a client-final message is a short text with enough parts, all of which fit
client_final_is_fitting : (text : List ℕ) (p : ClientFinalParts) → IsClientFinal text p
    → IsFittingText max_nonce_len 3 (places (Channel ∷ Nonce ∷ []) (Proof ∷ []) (length (parts text))) text
client_final_is_fitting text p is =
    let cut = parts-client_final text p is in record {
      short = is.short;
      utf8_text = is.utf8_text;
      enough = rw cut (omega (arith, length-append p.extensions ((codes "p=" ++ base64 p.proof) ∷ [])));
      fit = subst (λ (ps : List (List ℕ)). AllFit max_nonce_len (places (Channel ∷ Nonce ∷ []) (Proof ∷ []) (length ps)) ps) (sym cut)
          (client_final_parts_fit p is.channel is.nonce is.extensions is.proof);
    }

-- it is decidable whether a text is client-final, and with which parts
decided_client_final : (text : List ℕ) → Decided ((p : ClientFinalParts) × IsClientFinal text p)
decided_client_final text =
    decided_equivalent (IsFittingText max_nonce_len 3 (places (Channel ∷ Nonce ∷ []) (Proof ∷ []) (length (parts text))) text)
    ((p : ClientFinalParts) × IsClientFinal text p)
    (λ r. fitting_text_is_client_final text (parts text) refl r.enough r.short r.utf8_text r.fit)
    (λ (p, is). client_final_is_fitting text p is)
    (decided_fitting_text max_nonce_len 3 (places (Channel ∷ Nonce ∷ []) (Proof ∷ []) (length (parts text))) text)

-- the law: it is decidable whether a text is client-final
pub client_final_is_decided : ClientFinalIsDecided
client_final_is_decided text = some_or_none ClientFinalParts (IsClientFinal text) (decided_client_final text)
