-- The parts of server-final: they are read in only one way, and a text that has them has no fault.
use Rattle.std.proofs.Common.{◌≡◌, inr, ℕ, ◌≤◌, List, [], ◌∷◌, length, replicate, refl, sym, ◌∙◌, ap, arith, subst}
use Rattle.std.specs.Prelude.{IfOk, IfErr, IsOkAnd}
use Rattle.std.specs.declared.result.Result.{Result}
use Rattle.std.proofs.lemmas.List.Splits.{join_with_byte-slice_split}
use Rattle.std.specs.Str.{byte}
use Rattle.scram_text.specs.Limits.{max_message_len, max_nonce_len, max_tag_len}
use Rattle.scram_text.specs.Class.{IsUtf8Text}
use Rattle.scram_text.specs.Name.{LacksComma}
use Rattle.scram_text.specs.Base64Field.{base64}
use Rattle.scram_text.specs.Parts.{parts, joined, AreExtensions}
use Rattle.scram_text.specs.Messages.{VerifierOrError, verifier, server_error, ServerFinalParts, verifier_or_error_text, IsVerifierOrError}
use Rattle.scram_text.specs.Messages.{server_final_text, IsServerFinal}
use Rattle.scram_text.specs.Laws.{HasOneServerFinal}
use Rattle.scram_text.specs.Faults.{Fits, fault, places, IsFirstMisfit, verifier_or_error_place, server_final_places, IsServerFinalFault}
use Rattle.scram_text.specs.inner.Pieces.{IsExtensionMisfit}
use Rattle.scram_text.specs.Shown.{ShowsServerFinal}
use Rattle.scram_text.specs.declared.server_final.ServerFinal.{ServerFinal}
use Rattle.scram_text.specs.declared.fault.TextFault.{TextFault}
use Rattle.scram_text.specs.declared.fault.TextWhy.TheVariants.{Extension}
use Rattle.scram_text.proofs.lemmas.ListEnds.{same_head_and_tail}
use Rattle.scram_text.proofs.lemmas.Base64.{base64_lacks_comma}
use Rattle.scram_text.proofs.lemmas.Parts.{unfit_part_is_misfit, fitting_part_keeps_misfit}
use Rattle.scram_text.proofs.lemmas.Places.{AllFit, AllFit-cons, extensions_fit, part_fault_is_fault, fitting_text_has_no_fault}
use Rattle.scram_text.proofs.lemmas.Places.{extensions_lack_comma, parts-joined, field_part_spells_field, one_field_per_base64}
use Rattle.scram_text.proofs.lemmas.MextAndRest.{front_places_unfold}
use Rattle.scram_text.proofs.lemmas.ReadMessages.{message_is_read}

-- a verifier or an error has no comma
verifier_or_error_lacks_comma : (v : VerifierOrError) → IsVerifierOrError v → LacksComma (verifier_or_error_text v)
verifier_or_error_lacks_comma (verifier signature) is = base64_lacks_comma signature is.each
verifier_or_error_lacks_comma (server_error value) is = is.no_comma

-- a server-final message is cut into its parts
pub parts-server_final : (text : List ℕ) (p : ServerFinalParts) → IsServerFinal text p
    → parts text ≡ verifier_or_error_text p.verifier_or_error ∷ p.extensions
unfolding server_final_text
parts-server_final text p is =
    rw (is.spelled) (parts-joined (verifier_or_error_text p.verifier_or_error) p.extensions
    (verifier_or_error_lacks_comma p.verifier_or_error is.verifier_or_error, extensions_lack_comma p.extensions is.extensions))

-- a text is that of at most one verifier or error
one_verifier_or_error_per_text : (one other : VerifierOrError) → IsVerifierOrError one → IsVerifierOrError other
    → verifier_or_error_text one ≡ verifier_or_error_text other → one ≡ other
one_verifier_or_error_per_text (verifier one) (verifier other) is also same =
    let texts : base64 one ≡ base64 other = cc same in ap verifier (one_field_per_base64 max_tag_len one other is also texts)
one_verifier_or_error_per_text (verifier one) (server_error other) is also same =
    absurd (omega (arith, (same_head_and_tail 118 101 _ _ same).0))
one_verifier_or_error_per_text (server_error one) (verifier other) is also same =
    absurd (omega (arith, (same_head_and_tail 101 118 _ _ same).0))
one_verifier_or_error_per_text (server_error one) (server_error other) is also same =
    let values : one ≡ other = cc same in ap server_error values

-- the law: a text is server-final with at most one list of parts
pub has_one_server_final : HasOneServerFinal
has_one_server_final text p q is also =
    let same : verifier_or_error_text p.verifier_or_error ∷ p.extensions ≡ verifier_or_error_text q.verifier_or_error
    ∷ q.extensions = sym (parts-server_final text p is) ∙ parts-server_final text q also in
    let texts : verifier_or_error_text p.verifier_or_error ≡ verifier_or_error_text q.verifier_or_error = cc same in
    let extensions : p.extensions ≡ q.extensions = cc same in
    let v = one_verifier_or_error_per_text p.verifier_or_error q.verifier_or_error is.verifier_or_error also.verifier_or_error texts in
    λ i. record { verifier_or_error = v i; extensions = extensions i }

-- the places of server-final's parts are that of its verifier or error, and one Extension for each extension
pub server_final_places_unfold : (first : List ℕ) (extensions : List (List ℕ))
    → places (verifier_or_error_place first ∷ []) [] (length (first ∷ extensions))
    ≡ verifier_or_error_place first ∷ replicate (length extensions) Extension
server_final_places_unfold first extensions =
    front_places_unfold (verifier_or_error_place first ∷ []) (length (first ∷ extensions)) (length extensions) (omega arith)

-- the text of a verifier or an error fits its place
pub verifier_or_error_fits : (v : VerifierOrError) → IsVerifierOrError v
    → Fits max_nonce_len (verifier_or_error_place (verifier_or_error_text v)) (verifier_or_error_text v)
verifier_or_error_fits (verifier signature) is = field_part_spells_field (byte "v") max_tag_len _ signature refl is
verifier_or_error_fits (server_error value) is = (value, refl, is)

-- if the first part of server-final fits its place, and the others are extensions, all parts fit their places
pub server_final_parts_fit : (first : List ℕ) (extensions : List (List ℕ)) → Fits max_nonce_len (verifier_or_error_place first) first
    → AreExtensions extensions
    → AllFit max_nonce_len (places (verifier_or_error_place first ∷ []) [] (length (first ∷ extensions))) (first ∷ extensions)
server_final_parts_fit first extensions fits are =
    rw (server_final_places_unfold first extensions)
    (AllFit-cons max_nonce_len (verifier_or_error_place first) _ first extensions fits
    (extensions_fit max_nonce_len extensions are))

-- a server-final message has no fault
server_final_has_no_fault : (text : List ℕ) (p : ServerFinalParts) (f : TextFault) → IsServerFinal text p → IsServerFinalFault text f → ⊥
server_final_has_no_fault text p f is =
    fitting_text_has_no_fault max_nonce_len server_final_places [] text
    (verifier_or_error_text p.verifier_or_error ∷ p.extensions) f is.short
    is.utf8_text
    (parts-server_final text p is)
    (omega arith) (server_final_parts_fit (verifier_or_error_text p.verifier_or_error) p.extensions
    (verifier_or_error_fits p.verifier_or_error is.verifier_or_error) is.extensions)

-- a text that is server-final is read, and what is read shows its parts
pub server_final_is_read : (text : List ℕ) (r : Result ServerFinal TextFault)
    → IfOk r (λ m. (p : ServerFinalParts) × IsServerFinal text p × ShowsServerFinal m p) → IfErr r (λ f. IsServerFinalFault text f)
    → (p : ServerFinalParts) → IsServerFinal text p → IsOkAnd r (λ m. ShowsServerFinal m p)
server_final_is_read text r =
    message_is_read (IsServerFinal text) ShowsServerFinal (IsServerFinalFault text) r
    (has_one_server_final text) (server_final_has_no_fault text)

-- the first part of server-final that does not fit is a fault of the text
module _ (text first : List ℕ) (extensions : List (List ℕ)) (short : length text ≤ max_message_len) (utf8_text : IsUtf8Text text)
    (cut : parts text ≡ first ∷ extensions) where
  -- the first misfit of the parts is a fault of the text
  server_final_misfit_is_fault : (f : TextFault)
      → IsFirstMisfit max_nonce_len (verifier_or_error_place first ∷ replicate (length extensions) Extension) 0 (first ∷ extensions) f
      → IsServerFinalFault text f
  server_final_misfit_is_fault f misfit =
      part_fault_is_fault max_nonce_len server_final_places [] text (first ∷ extensions) f short utf8_text cut
      (inr (omega arith, rw (server_final_places_unfold first extensions) misfit))

  -- a first part that does not fit the place of a verifier or an error is the fault of the text
  pub unfit_verifier_or_error_is_fault : (f : TextFault)
      → (Fits max_nonce_len (verifier_or_error_place first) first → ⊥) × (f ≡ fault 0 (verifier_or_error_place first))
      → IsServerFinalFault text f
  unfit_verifier_or_error_is_fault f (no_fit, is) =
      subst (λ (g : TextFault). IsServerFinalFault text g) (sym is)
      (server_final_misfit_is_fault (fault 0 (verifier_or_error_place first))
      (unfit_part_is_misfit max_nonce_len 0 (verifier_or_error_place first) _ first extensions no_fit))

  -- if the first part fits, the first extension that does not is the fault of the text
  pub extension_misfit_is_fault : (f : TextFault) → Fits max_nonce_len (verifier_or_error_place first) first
      → IsExtensionMisfit 1 extensions f
      → IsServerFinalFault text f
  extension_misfit_is_fault f fits misfit =
      server_final_misfit_is_fault f (fitting_part_keeps_misfit max_nonce_len 0 (verifier_or_error_place first) _ first extensions f fits
      (misfit max_nonce_len))

-- a part that is the text of a verifier or an error fits its place
pub verifier_or_error_part_fits : (part : List ℕ) (v : VerifierOrError) → part ≡ verifier_or_error_text v → IsVerifierOrError v
    → Fits max_nonce_len (verifier_or_error_place part) part
verifier_or_error_part_fits part v spelled is =
    subst (λ (t : List ℕ). Fits max_nonce_len (verifier_or_error_place t) t) (sym spelled) (verifier_or_error_fits v is)

-- the pieces of server-final make its text
pub pieces_spell_server_final : (text first : List ℕ) (p : ServerFinalParts) → parts text ≡ first ∷ p.extensions
    → first ≡ verifier_or_error_text p.verifier_or_error
    → text ≡ server_final_text p
unfolding server_final_text
pieces_spell_server_final text first p cut spelled =
    let pieces : first ∷ p.extensions ≡ verifier_or_error_text p.verifier_or_error ∷ p.extensions = cc spelled in
    sym (join_with_byte-slice_split (byte ",") text) ∙ ap joined (cut ∙ pieces)
