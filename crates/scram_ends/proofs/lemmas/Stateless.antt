-- Of a login that is judged in one call: its names, its opening, and the verdict on parts that are right before the proof.
use Rattle.std.proofs.Common.{◌≡◌, inl, inr, ℕ, true, false, Bool, List, sym, ◌∙◌, ap, subst, refl}
use Rattle.std.specs.Bool.{OnTrue}
use Rattle.std.specs.declared.option.Option.{Option}
use Rattle.std.specs.declared.option.Option.TheVariants.{None, Some}
use Rattle.std.proofs.lemmas.Option.{same_Some}
use Rattle.scram_text.specs.Messages.{ClientFirstParts, IsClientFirst, ServerFirstParts}
use Rattle.scram_text.specs.Shown.{ShowsClientFirst}
use Rattle.scram_text.specs.declared.client_first.ClientFirst.{ClientFirst}
use Rattle.scram_text.proofs.lemmas.ClientFirst.{has_one_client_first}
use Rattle.scram_text.proofs.lemmas.Names.{one_name_per_spelling}
use Rattle.scram_ends.specs.Entry.{Entry}
use Rattle.scram_ends.specs.Opening.{IsNameOf, IsAuthzidOf, IsTakenUp, ExtendsNonce, IsOpening}
use Rattle.scram_ends.specs.Stateless.{entry_of_parts}
use Rattle.scram_ends.specs.inner.Stateless.{IsAnswered}
use Rattle.scram_ends.specs.declared.stateless.EntryParts.{EntryParts}
use Rattle.scram_text.specs.Messages.{ClientFinalParts}
use Rattle.scram_text.proofs.lemmas.FirstUnmet.{found_is_first}
use Rattle.scram_ends.specs.Entry.{Keys}
use Rattle.scram_ends.specs.Stages.{Challenged}
use Rattle.scram_ends.specs.Auth.{auth_message, server_signature, IsProof}
use Rattle.scram_ends.specs.Opening.{Opening, IsAllowed}
use Rattle.scram_ends.specs.Verdict.{refusals_in_order, AsksOfFinal, accept, refuse, IsVerdictOn}
use Rattle.scram_ends.specs.inner.Stateless.{IsRightBeforeProof}
use Rattle.scram_ends.specs.declared.verdict.Refusal.TheVariants.{InvalidProof, NotAuthorised}

-- parts without a proof that is one for the entry's keys are refused for it
pub other_proof_is_refused : (l : Challenged) (o : Opening) (p : ClientFinalParts) → IsRightBeforeProof o p
    → ((keys : Keys) → l.entry.keys ≡ Some keys → IsProof l.mechanism keys (auth_message o.first l.server_first p) p.proof → ⊥)
    → IsVerdictOn l o p (refuse InvalidProof)
other_proof_is_refused l o p right none =
    found_is_first (λ row. AsksOfFinal row l o p) refusals_in_order InvalidProof
    (inr (right.not_mandatory, inr (right.nonce, inr (right.channel, inl (refl, λ (keys, held, is). none keys held is)))))

-- parts with a proof, whose login asks to act as a name that is not allowed, are refused for that
pub other_name_is_refused : (l : Challenged) (o : Opening) (p : ClientFinalParts) (keys : Keys) → IsRightBeforeProof o p
    → l.entry.keys ≡ Some keys → IsProof l.mechanism keys (auth_message o.first l.server_first p) p.proof
    → (IsAllowed l.entry o.name o.authzid → ⊥) → IsVerdictOn l o p (refuse NotAuthorised)
other_name_is_refused l o p keys right held is none =
    found_is_first (λ row. AsksOfFinal row l o p) refusals_in_order NotAuthorised
    (inr (right.not_mandatory, inr (right.nonce, inr (right.channel, inr ((keys, held, is), inl (refl, none))))))

-- parts with a proof, whose name to act as is allowed, are accepted with the server's signature
pub right_parts_are_accepted : (l : Challenged) (o : Opening) (p : ClientFinalParts) (keys : Keys) (signature : List ℕ) → IsRightBeforeProof o p
    → l.entry.keys ≡ Some keys → IsProof l.mechanism keys (auth_message o.first l.server_first p) p.proof
    → IsAllowed l.entry o.name o.authzid
    → signature ≡ server_signature l.mechanism keys (auth_message o.first l.server_first p) → IsVerdictOn l o p (accept signature)
right_parts_are_accepted l o p keys signature right held is allowed signed =
    ((right.not_mandatory, (right.nonce, (right.channel, ((keys, held, is), (allowed, tt))))), (keys, held, signed))

-- if a name is plain, so are both names exactly if the one to act as is
pub both_are_plain : (name spelled : List ℕ) (authzid : Option (List ℕ)) (b : Bool) → authzid ≡ Some spelled
    → (plain : List ℕ) × IsNameOf plain name → OnTrue b ((plain : List ℕ) × IsNameOf plain spelled)
    → OnTrue b ((plain : List ℕ) × (act_as : Option (List ℕ)) × IsNameOf plain name × IsAuthzidOf act_as authzid)
both_are_plain name spelled authzid false is plain also = tt
both_are_plain name spelled authzid true is plain also =
    (plain.0, Some also.0, plain.1, subst (IsAuthzidOf (Some also.0)) (sym is) also.1)

-- a name to act as that is spelled as the account's own name is allowed
pub own_name_is_allowed : (e : Entry) (plain : List ℕ) (act_as authzid : Option (List ℕ)) (name spelled : List ℕ) → authzid ≡ Some spelled
    → spelled ≡ name → IsNameOf plain name → IsAuthzidOf act_as authzid → IsAllowed e plain act_as
own_name_is_allowed e plain None authzid name spelled is same of_name of_authzid = tt
own_name_is_allowed e plain (Some other) None name spelled is same of_name of_authzid = absurd of_authzid
own_name_is_allowed e plain (Some other) (Some part) name spelled is same of_name of_authzid =
    inl (one_name_per_spelling other plain
    (sym of_authzid.spelled ∙ (same_Some part spelled is ∙ (same ∙ of_name.spelled))))

-- a client-first message that a server takes up, and a challenge to its nonce with the entry's salt and count, are an opening
pub answered_opens : {K N : Type 0} (e : EntryParts K N) (names : List (List ℕ)) (held : Option Keys) (client_first server_first : List ℕ)
    (message : ClientFirst) (first : ClientFirstParts) (name : List ℕ) (authzid : Option (List ℕ)) (challenge : ServerFirstParts)
    → IsClientFirst client_first first → ShowsClientFirst message first → IsTakenUp first name authzid
    → IsAnswered e.salt.now e.count message.nonce.now server_first challenge
    → IsOpening (entry_of_parts e names held) client_first server_first
    (record { first = first; name = name; authzid = authzid; challenge = challenge })
answered_opens e names held client_first server_first message first name authzid challenge is shows taken answered = record {
  is_first = is;
  taken_up = taken;
  is_challenge = answered.is_challenge;
  not_mandatory = answered.not_mandatory;
  longer = subst (λ (n : List ℕ). ExtendsNonce n challenge.nonce) shows.nonce answered.longer;
  salt = answered.same_salt;
  count = answered.same_count;
}

-- the challenge of an opening answers the nonce of the client-first message
pub opening_is_answered : {K N : Type 0} (e : EntryParts K N) (names : List (List ℕ)) (held : Option Keys)
    (client_first server_first : List ℕ) (message : ClientFirst) (first : ClientFirstParts) (o : Opening)
    → IsClientFirst client_first first → ShowsClientFirst message first
    → IsOpening (entry_of_parts e names held) client_first server_first o
    → IsAnswered e.salt.now e.count message.nonce.now server_first o.challenge
opening_is_answered e names held client_first server_first message first o is shows opens =
    let nonce : message.nonce.now ≡ o.first.nonce =
    shows.nonce ∙ ap (λ (p : ClientFirstParts). p.nonce) (has_one_client_first client_first first o.first is opens.is_first) in
    record {
      is_challenge = opens.is_challenge;
      not_mandatory = opens.not_mandatory;
      longer = subst (λ (n : List ℕ). ExtendsNonce n o.challenge.nonce) (sym nonce) opens.longer;
      same_salt = opens.salt;
      same_count = opens.count;
    }
