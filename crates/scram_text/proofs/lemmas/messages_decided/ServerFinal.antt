-- It is decidable whether a text is server-final: it is if its parts all fit their places.
use Rattle.std.proofs.Common.{◌≡◌, inl, inr, ℕ, ◌≤◌, List, [], ◌∷◌, ◌++◌, length, replicate, refl, sym, ◌∙◌, ap, arith, subst}
use Rattle.std.specs.Prelude.{codes}
use Rattle.std.proofs.lemmas.Bool.{cases_Bool}
use Rattle.std.specs.Str.{byte}
use Rattle.mac_core.proofs.lemmas.Decided.{Decided, decided_equivalent}
use Rattle.scram_text.specs.Limits.{max_message_len, max_nonce_len}
use Rattle.scram_text.specs.Class.{IsUtf8Text}
use Rattle.scram_text.specs.Parts.{parts, is_named}
use Rattle.scram_text.specs.Messages.{VerifierOrError, verifier, server_error, verifier_or_error_text, IsVerifierOrError, ServerFinalParts}
use Rattle.scram_text.specs.Messages.{IsServerFinal}
use Rattle.scram_text.specs.Faults.{Fits, places, verifier_or_error_place, server_final_places}
use Rattle.scram_text.specs.Laws.{ServerFinalIsDecided}
use Rattle.scram_text.specs.declared.fault.TextWhy.{TextWhy}
use Rattle.scram_text.specs.declared.fault.TextWhy.TheVariants.{Extension}
use Rattle.scram_text.proofs.lemmas.Parts.{parts_exceed_commas_by_one}
use Rattle.scram_text.proofs.lemmas.Places.{AllFit, first_part_fits, fitting_are_extensions}
use Rattle.scram_text.proofs.lemmas.Decided.{some_or_none}
use Rattle.scram_text.proofs.lemmas.ServerFinal.{parts-server_final, server_final_parts_fit, verifier_or_error_fits, server_final_places_unfold}
use Rattle.scram_text.proofs.lemmas.ServerFinal.{pieces_spell_server_final}
use Rattle.scram_text.proofs.lemmas.messages_decided.Fitting.{IsFittingText, decided_fitting_text}

-- a first part that fits the place of a verifier or an error is the text of one
fitting_part_is_verifier_or_error : (part : List ℕ) → Fits max_nonce_len (verifier_or_error_place part) part → (v : VerifierOrError)
    × (part ≡ verifier_or_error_text v) × IsVerifierOrError v
fitting_part_is_verifier_or_error part fits = elim (cases_Bool (is_named (byte "e") part)) [
  | inl hit ↦ let (value, spelled, is) = rw hit at fits in (server_error value, spelled, is)
  | inr miss ↦ let (value, spelled, (bytes, is, field)) = rw miss at fits in
      (verifier bytes, spelled ∙ ap (λ (v : List ℕ). codes "v=" ++ v) is, field)
]

-- a short text whose parts fit those of server-final is one
fitting_text_is_server_final : (text : List ℕ) (pieces : List (List ℕ)) → parts text ≡ pieces → length text ≤ max_message_len
    → IsUtf8Text text
    → AllFit max_nonce_len (places (server_final_places pieces) [] (length pieces)) pieces → (p : ServerFinalParts) × IsServerFinal text p
fitting_text_is_server_final text [] cut short utf8_text fit = absurd (omega (arith, parts_exceed_commas_by_one text, ap length cut))
fitting_text_is_server_final text (first ∷ extensions) cut short utf8_text fit =
    let each = first_part_fits max_nonce_len (verifier_or_error_place first) (replicate (length extensions) Extension) first extensions
    (subst (λ (ps : List TextWhy). AllFit max_nonce_len ps (first ∷ extensions)) (server_final_places_unfold first extensions) fit) in
    let (v, spelled, is) = fitting_part_is_verifier_or_error first each.0 in
    let p : ServerFinalParts = record { verifier_or_error = v; extensions = extensions } in (
      p,
      record {
        spelled = pieces_spell_server_final text first p cut spelled;
        verifier_or_error = is;
        extensions = fitting_are_extensions max_nonce_len extensions each.1;
        utf8_text = utf8_text;
        short = short;
      },
    )

-- a server-final message is a short text with enough parts, all of which fit
server_final_is_fitting : (text : List ℕ) (p : ServerFinalParts) → IsServerFinal text p
    → IsFittingText max_nonce_len 1 (places (server_final_places (parts text)) [] (length (parts text))) text
server_final_is_fitting text p is =
    let cut = parts-server_final text p is in record {
      short = is.short;
      utf8_text = is.utf8_text;
      enough = rw cut (omega arith);
      fit = subst (λ (ps : List (List ℕ)). AllFit max_nonce_len (places (server_final_places ps) [] (length ps)) ps) (sym cut)
          (server_final_parts_fit (verifier_or_error_text p.verifier_or_error) p.extensions
          (verifier_or_error_fits p.verifier_or_error is.verifier_or_error) is.extensions);
    }

-- it is decidable whether a text is server-final, and with which parts
decided_server_final : (text : List ℕ) → Decided ((p : ServerFinalParts) × IsServerFinal text p)
decided_server_final text =
    decided_equivalent (IsFittingText max_nonce_len 1 (places (server_final_places (parts text)) [] (length (parts text))) text)
    ((p : ServerFinalParts) × IsServerFinal text p)
    (λ r. fitting_text_is_server_final text (parts text) refl r.short r.utf8_text r.fit) (λ (p, is). server_final_is_fitting text p is)
    (decided_fitting_text max_nonce_len 1 (places (server_final_places (parts text)) [] (length (parts text))) text)

-- the law: it is decidable whether a text is server-final
pub server_final_is_decided : ServerFinalIsDecided
server_final_is_decided text = some_or_none ServerFinalParts (IsServerFinal text) (decided_server_final text)
