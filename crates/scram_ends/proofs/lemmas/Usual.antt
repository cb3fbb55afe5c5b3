-- A challenge and a client-final message without extensions are the texts of their pieces.
use Rattle.std.proofs.Common.{◌≡◌, ◌-◌, true, false, drop, eqb, ◌≤◌, ◌<◌, ◌^◌, ◌+◌, ℕ, List, [], ◌++◌, length, take, sym, ◌∙◌, ap, subst, refl, arith, append_assoc, length-append}
use Rattle.std.specs.Prelude.{codes, decimal, IfSome, MatchOption}
use Rattle.std.specs.Borrow.{Bor}
use Rattle.std.specs.Cmp.Lexicographic.{pointwise}
use Rattle.std.specs.declared.option.Option.{Option}
use Rattle.std.specs.declared.option.Option.TheVariants.{None, Some}
use Rattle.std.proofs.lemmas.Bool.Decides.{Decides-eqb}
use Rattle.std.proofs.lemmas.Slice.Eq.{strip_prefix_is, strip_suffix_is}
use Rattle.std.proofs.lemmas.List.{append-nil}
use Rattle.mac_core.proofs.lemmas.Digests.{AreBytes}
use Rattle.scram_text.specs.Limits.{max_message_len, max_nonce_len, max_salt_len, max_tag_len}
use Rattle.scram_text.specs.Class.{IsNonce}
use Rattle.scram_text.specs.Base64Field.{base64, IsField}
use Rattle.scram_text.specs.Messages.{server_first_text, IsServerFirst, client_final_without_proof, client_final_text, IsClientFinal}
use Rattle.scram_text.specs.Written.{server_first_of, client_final_of}
use Rattle.scram_text.proofs.lemmas.messages_composed.ServerFirst.{pieces_compose_server_first, written_is_server_first}
use Rattle.scram_text.proofs.lemmas.messages_composed.ClientFinal.{pieces_compose_without_proof, pieces_compose_client_final, written_is_client_final}
use Rattle.scram_ends.specs.Opening.{ExtendsNonce}
use Rattle.scram_ends.specs.inner.Stateless.{IsAnswered}
use Rattle.scram_ends.specs.declared.lengths.TheConstants.{MAX_HEADER_LEN}
use Rattle.scram_ends.proofs.lemmas.Written.{challenge_can_be_written, challenge_fits, cut_at_front_is_front_and_text}
use Rattle.scram_ends.proofs.lemmas.client_messages.ClientFinal.{client_final_can_be_written, client_final_is_short}

-- what is left of a text from which a front was stripped follows that front
pub rest_after_front : (text front : List ℕ) (r : Option (Bor (List ℕ)))
    → MatchOption r (pointwise eqb (take (length front) text) front ≡ false) (λ x. (pointwise eqb (take (length front) text) front ≡ true)
    × (x.now ≡ drop (length front) text) × (length x.now + length front ≡ length text))
    → IfSome r (λ rest. text ≡ front ++ rest.now)
rest_after_front text front None none = tt
rest_after_front text front (Some rest) cut = strip_prefix_is Decides-eqb text front (Some rest) cut

-- what is left of a text from which an end was stripped comes before that end
pub rest_before_end : (text end : List ℕ) (r : Option (Bor (List ℕ)))
    → MatchOption r (pointwise eqb (drop (length text - length end) text) end ≡ false)
    (λ x. (pointwise eqb (drop (length text - length end) text) end ≡ true)
    × (x.now ≡ take (length text - length end) text) × (length x.now + length end ≡ length text))
    → IfSome r (λ rest. text ≡ rest.now ++ end)
rest_before_end text end None none = tt
rest_before_end text end (Some rest) cut = strip_suffix_is Decides-eqb text end (Some rest) cut

-- the pieces of a challenge are one text, however they are grouped
challenge_pieces_regroup : (r n s v i k : List ℕ) → r ++ (n ++ (((s ++ v) ++ i) ++ k)) ≡ (((((r ++ n) ++ s) ++ v) ++ i) ++ k) ++ []
challenge_pieces_regroup r n s v i k = simp (append_assoc, append-nil)

-- what is not longer than a message may be is at most as long
not_longer : {n : ℕ} → (max_message_len < n → ⊥) → n ≤ max_message_len
not_longer {n} not = omega (arith, not)

-- a text of these pieces is a challenge to the client's nonce, with this salt and count
pub pieces_are_challenge : (salt client nonce text rest tail : List ℕ) (count : ℕ)
    → text ≡ codes "r=" ++ rest → rest ≡ nonce ++ tail → tail ≡ ((codes ",s=" ++ base64 salt) ++ codes ",i=") ++ decimal count
    → IsField max_salt_len salt → 1 ≤ count → count < 2 ^ 32 → IsNonce max_nonce_len nonce → ExtendsNonce client nonce
    → IsAnswered salt count client text (server_first_of nonce salt count [])
pieces_are_challenge salt client nonce text rest tail count text_is rest_is tail_is field least most is_nonce longer =
    let pieces : rest ≡ nonce ++ (((codes ",s=" ++ base64 salt) ++ codes ",i=") ++ decimal count) =
    rest_is ∙ ap (λ (t : List ℕ). nonce ++ t) tail_is in
    let whole : text ≡ server_first_text (server_first_of nonce salt count []) =
    text_is ∙ (ap (λ (t : List ℕ). codes "r=" ++ t) pieces
    ∙ (challenge_pieces_regroup (codes "r=") nonce (codes ",s=") (base64 salt) (codes ",i=") (decimal count)
    ∙ pieces_compose_server_first nonce salt count [])) in
    let fits : length (server_first_text (server_first_of nonce salt count [])) ≤ max_message_len =
    not_longer (challenge_fits nonce salt count is_nonce field most) in
    record {
      is_challenge = subst (λ (t : List ℕ). IsServerFirst t (server_first_of nonce salt count [])) (sym whole)
          (written_is_server_first nonce salt count [] field.each
          (challenge_can_be_written nonce salt count is_nonce field least most) fits);
      not_mandatory = refl;
      longer = longer;
      same_salt = refl;
      same_count = refl;
    }

-- the front of a client-final message and its nonce are what comes before its proof
pub pieces_are_without_proof : (header nonce proof front : List ℕ) → front ≡ (codes "c=" ++ base64 header) ++ codes ",r="
    → front ++ nonce ≡ client_final_without_proof (client_final_of header nonce [] proof)
pieces_are_without_proof header nonce proof front is =
    ap (λ (t : List ℕ). t ++ nonce) is
    ∙ (sym (append-nil (((codes "c=" ++ base64 header) ++ codes ",r=") ++ nonce)) ∙ pieces_compose_without_proof header nonce [] proof)

-- the pieces of a client-final message are one text, however they are grouped
final_pieces_regroup : (f n p v : List ℕ) → f ++ (n ++ (p ++ v)) ≡ ((f ++ n) ++ p) ++ v
final_pieces_regroup f n p v = simp append_assoc

-- a text of these pieces is a client-final message with this header, this nonce and this proof
pub pieces_are_client_final : (header nonce proof text front rest end value : List ℕ)
    → front ≡ (codes "c=" ++ base64 header) ++ codes ",r=" → text ≡ front ++ rest → rest ≡ nonce ++ end → end ≡ codes ",p=" ++ value
    → value ≡ base64 proof
    → AreBytes header → 1 ≤ length header → length header ≤ MAX_HEADER_LEN → IsNonce max_nonce_len nonce → IsField max_tag_len proof
    → IsClientFinal text (client_final_of header nonce [] proof)
pieces_are_client_final header nonce proof text front rest end value front_is text_is rest_is end_is value_is bytes some short is_nonce field =
    let after_nonce : end ≡ codes ",p=" ++ base64 proof = end_is ∙ ap (λ (t : List ℕ). codes ",p=" ++ t) value_is in
    let after_front : rest ≡ nonce ++ (codes ",p=" ++ base64 proof) = rest_is ∙ ap (λ (t : List ℕ). nonce ++ t) after_nonce in
    let whole : text ≡ client_final_text (client_final_of header nonce [] proof) =
    text_is ∙ (ap (λ (t : List ℕ). front ++ t) after_front
    ∙ (final_pieces_regroup front nonce (codes ",p=") (base64 proof)
    ∙ pieces_compose_client_final (client_final_of header nonce [] proof) (front ++ nonce) proof
    (pieces_are_without_proof header nonce proof front front_is) refl)) in
    subst (λ (t : List ℕ). IsClientFinal t (client_final_of header nonce [] proof)) (sym whole)
    (written_is_client_final header nonce [] proof bytes field.each
    (client_final_can_be_written header nonce proof bytes field.each some short is_nonce field.at_least field.at_most)
    (client_final_is_short header nonce proof short is_nonce.at_most field.at_most))

-- what is cut after the front and the nonce is the text before the proof
pub cut_is_without_proof : (header nonce proof text front rest end : List ℕ) (size : ℕ)
    → front ≡ (codes "c=" ++ base64 header) ++ codes ",r=" → text ≡ front ++ rest → rest ≡ nonce ++ end
    → size ≡ length front + length nonce
    → take size text ≡ client_final_without_proof (client_final_of header nonce [] proof)
cut_is_without_proof header nonce proof text front rest end size front_is text_is rest_is sized =
    let whole : text ≡ (front ++ nonce) ++ end =
    text_is ∙ (ap (λ (t : List ℕ). front ++ t) rest_is ∙ sym (append_assoc front nonce end)) in
    let long : size ≡ length (front ++ nonce) = omega (arith, sized, length-append front nonce) in
    (cut_at_front_is_front_and_text text (front ++ nonce) end size whole long).0 ∙ pieces_are_without_proof header nonce proof front front_is
