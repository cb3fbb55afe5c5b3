-- After an opening some verdict is due to every text: each row is decidable.
use Rattle.std.proofs.Common.{◌≡◌, ℕ, inl, inr, true, List, length, sym, subst, refl}
use Rattle.std.specs.List.{Contains, list_any}
use Rattle.std.specs.Str.{bytes_eq}
use Rattle.std.specs.declared.option.Option.{Option}
use Rattle.std.specs.declared.option.Option.TheVariants.{None, Some}
use Rattle.std.proofs.lemmas.Bool.{cases_Bool, both_ways}
use Rattle.std.proofs.lemmas.Option.{same_Some, none-some}
use Rattle.mac_core.specs.Mechanism.{digest_len_by, stored_key_by}
use Rattle.mac_core.specs.Keys.{xor_bytes}
use Rattle.mac_core.specs.declared.mechanism.Mechanism.{Mechanism}
use Rattle.mac_core.proofs.lemmas.Among.{found_iff_among}
use Rattle.mac_core.proofs.lemmas.Decided.{Decided, decided_equivalent, decided_both, decided_test, decided_same_number, decided_same_text}
use Rattle.scram_text.specs.Messages.{gs2_header, ClientFinalParts, client_final_mandatory}
use Rattle.scram_text.proofs.lemmas.messages_decided.ClientFinal.{client_final_is_decided}
use Rattle.scram_text.proofs.lemmas.FirstUnmet.{first_unmet_or_all_met}
use Rattle.scram_ends.specs.Entry.{Keys, Entry}
use Rattle.scram_ends.specs.Stages.{Challenged}
use Rattle.scram_ends.specs.Auth.{auth_message, client_signature, server_signature, IsProof}
use Rattle.scram_ends.specs.Opening.{Opening, IsAllowed}
use Rattle.scram_ends.specs.Verdict.{refusals_in_order, AsksOfFinal, Due, accept, refuse, IsVerdictOn}
use Rattle.scram_ends.specs.Laws.{SomeVerdictIsDue}
use Rattle.scram_ends.specs.declared.verdict.Refusal.{Refusal}
use Rattle.scram_ends.specs.declared.verdict.Refusal.TheVariants.{InvalidEncoding, ExtensionsNotSupported, OtherNonce, Channel, InvalidProof}
use Rattle.scram_ends.specs.declared.verdict.Refusal.TheVariants.{NotAuthorised}

-- it is decidable whether a name is among others
decided_among : (names : List (List ℕ)) (name : List ℕ) → Decided (Contains names name)
decided_among names name =
    decided_equivalent (list_any (λ x. bytes_eq x name) names ≡ true) (Contains names name)
    (found_iff_among names name).0 (found_iff_among names name).1 (decided_test _)

-- it is decidable whether a name may act as another
decided_allowed : (e : Entry) (name : List ℕ) (authzid : Option (List ℕ)) → Decided (IsAllowed e name authzid)
decided_allowed e name None = inl tt
decided_allowed e name (Some authzid) = elim (decided_same_text authzid name) [
  | inl own ↦ inl (inl own)
  | inr other ↦ elim (decided_among e.act_as authzid) [
    | inl among ↦ inl (inr among)
    | inr not_among ↦ inr (λ allowed. elim allowed [ inl own ↦ other own | inr among ↦ not_among among ])
  ]
]

-- it is decidable whether a proof is one for these keys
decided_proof : (m : Mechanism) (keys : Keys) (auth proof : List ℕ) → Decided (IsProof m keys auth proof)
decided_proof m keys auth proof =
    decided_equivalent ((length proof ≡ digest_len_by m) × (stored_key_by m (xor_bytes proof (client_signature m keys auth)) ≡ keys.stored))
    (IsProof m keys auth proof) (λ h. record { len = h.0; opens = h.1 }) (λ p. (p.len, p.opens))
    (decided_both _ _ (decided_same_number (length proof) (digest_len_by m)) (decided_same_text _ _))

-- it is decidable whether a proof is one for keys that may be missing
decided_proof_by_held : (m : Mechanism) (held : Option Keys) (auth proof : List ℕ)
    → Decided ((keys : Keys) × (held ≡ Some keys) × IsProof m keys auth proof)
decided_proof_by_held m None auth proof = inr (λ h. none-some h.0 h.1)
decided_proof_by_held m (Some keys) auth proof =
    decided_equivalent (IsProof m keys auth proof) ((k : Keys) × (Some keys ≡ Some k) × IsProof m k auth proof)
    (λ h. (keys, refl, h)) (λ h. subst (λ (k : Keys). IsProof m k auth proof) (sym (same_Some keys h.0 h.1)) h.2)
    (decided_proof m keys auth proof)

-- it is decidable whether the parts meet a row
decided_row : (r : Refusal) (l : Challenged) (o : Opening) (p : ClientFinalParts) → Decided (AsksOfFinal r l o p)
decided_row InvalidEncoding l o p = inr (λ none. none)
decided_row ExtensionsNotSupported l o p = elim (cases_Bool (client_final_mandatory p)) [
  | inl asks ↦ inr (λ none. both_ways (client_final_mandatory p) none asks)
  | inr none ↦ inl none
]
decided_row OtherNonce l o p = decided_same_text p.nonce o.challenge.nonce
decided_row Channel l o p = decided_same_text p.channel (gs2_header o.first)
decided_row InvalidProof l o p = decided_proof_by_held l.mechanism l.entry.keys (auth_message o.first l.server_first p) p.proof
decided_row NotAuthorised l o p = decided_allowed l.entry o.name o.authzid

-- the parts have a verdict: there is a first row that they do not meet, or they meet all, and the keys of their proof sign
some_verdict_on_parts : (l : Challenged) (o : Opening) (p : ClientFinalParts) → (d : Due) × IsVerdictOn l o p d
some_verdict_on_parts l o p = elim (first_unmet_or_all_met (λ r. AsksOfFinal r l o p) refusals_in_order (λ r. decided_row r l o p)) [
  | inl first ↦ (refuse first.0, first.1)
  | inr all ↦ let (mandatory, (nonce, (channel, (proof, rest)))) = all in (
    accept (server_signature l.mechanism proof.0 (auth_message o.first l.server_first p)),
    (all, (proof.0, proof.1, refl)),
  )
]

-- the law: after an opening some verdict is due to each text
pub some_verdict_is_due : SomeVerdictIsDue
some_verdict_is_due l client_final o is_opening = elim (client_final_is_decided client_final) [
  | inr none ↦ (refuse InvalidEncoding, inl (none, refl))
  | inl found ↦ let verdict = some_verdict_on_parts l o found.0 in (
    verdict.0,
    inr (record { opening = o; final = found.0; is_opening = is_opening; is_final = found.1; is_verdict = verdict.1 }),
  )
]
