-- At most one verdict is due, and acceptance is due if and only if the login is valid.
use Rattle.std.proofs.Common.{◌≡◌, ℕ, inl, inr, List, sym, ◌∙◌, ap, subst, refl}
use Rattle.std.proofs.lemmas.Option.{same_Some}
use Rattle.scram_text.specs.Messages.{ClientFinalParts, IsClientFinal}
use Rattle.scram_text.proofs.lemmas.ClientFinal.{has_one_client_final}
use Rattle.scram_text.proofs.lemmas.FirstUnmet.{met_rows_have_no_first_unmet, one_first_unmet}
use Rattle.scram_ends.specs.Entry.{Keys}
use Rattle.scram_ends.specs.Stages.{Challenged}
use Rattle.scram_ends.specs.Auth.{auth_message, server_signature}
use Rattle.scram_ends.specs.Opening.{Opening, IsOpening}
use Rattle.scram_ends.specs.Verdict.{refusals_in_order, AsksOfFinal, Due, accept, refuse, IsVerdictOn, IsDueToParts, IsDue}
use Rattle.scram_ends.specs.Login.{IsAuthentic, IsValidLogin}
use Rattle.scram_ends.specs.Laws.{AtMostOneVerdictIsDue, AcceptsExactlyValid}
use Rattle.scram_ends.specs.declared.verdict.Refusal.{Refusal}
use Rattle.scram_ends.specs.declared.verdict.Refusal.TheVariants.{InvalidEncoding}
use Rattle.scram_ends.proofs.lemmas.Opening.{one_opening}

-- of what may be due to a client-final message, a refusal is not an acceptance
pub refusal_is_not_acceptance : (r : Refusal) (signature : List ℕ) → refuse r ≡ accept signature → ⊥
refusal_is_not_acceptance r signature same = cc

-- at most one verdict is due to the parts
one_verdict_on_parts : (l : Challenged) (o : Opening) (p : ClientFinalParts) (d other : Due)
    → IsVerdictOn l o p d → IsVerdictOn l o p other → d ≡ other
one_verdict_on_parts l o p (accept one) (accept other) is also =
    let signed : Keys → List ℕ = λ keys. server_signature l.mechanism keys (auth_message o.first l.server_first p) in
    let keys : is.1.0 ≡ also.1.0 = same_Some is.1.0 also.1.0 (sym is.1.1 ∙ also.1.1) in
    ap (λ (s : List ℕ). accept s) (is.1.2 ∙ (ap signed keys ∙ sym also.1.2))
one_verdict_on_parts l o p (accept one) (refuse q) is also =
    absurd (met_rows_have_no_first_unmet (λ r. AsksOfFinal r l o p) refusals_in_order q is.0 also)
one_verdict_on_parts l o p (refuse r) (accept other) is also =
    absurd (met_rows_have_no_first_unmet (λ r. AsksOfFinal r l o p) refusals_in_order r also.0 is)
one_verdict_on_parts l o p (refuse r) (refuse q) is also = ap (λ (x : Refusal). refuse x)
    (one_first_unmet (λ r. AsksOfFinal r l o p) refusals_in_order r q is also)

-- what is due to the messages is the verdict on the parts that they have
due_is_verdict_on_parts : (l : Challenged) (client_final : List ℕ) (o : Opening) (p : ClientFinalParts) (d : Due)
    → IsOpening l.entry l.client_first l.server_first o → IsClientFinal client_final p → IsDueToParts l client_final d → IsVerdictOn l o p d
due_is_verdict_on_parts l client_final o p d is_opening is_final due =
    subst (λ (q : ClientFinalParts). IsVerdictOn l o q d) (has_one_client_final client_final due.final p due.is_final is_final)
    (subst (λ (q : Opening). IsVerdictOn l q due.final d)
    (one_opening l.entry l.client_first l.server_first due.opening o due.is_opening is_opening) due.is_verdict)

-- the law: at most one verdict is due
pub at_most_one_verdict_is_due : AtMostOneVerdictIsDue
at_most_one_verdict_is_due l client_final d other (inl none) (inl also) = none.1 ∙ sym also.1
at_most_one_verdict_is_due l client_final d other (inl none) (inr also) = absurd (none.0 also.final also.is_final)
at_most_one_verdict_is_due l client_final d other (inr due) (inl none) = absurd (none.0 due.final due.is_final)
at_most_one_verdict_is_due l client_final d other (inr due) (inr also) =
    one_verdict_on_parts l also.opening also.final d other
    (due_is_verdict_on_parts l client_final also.opening also.final d also.is_opening also.is_final due) also.is_verdict

-- a valid login makes acceptance due, with the signature in its last message
pub acceptance_is_due : (l : Challenged) (client_final server_final : List ℕ) (v : IsValidLogin l client_final server_final)
    → IsDue l client_final (accept (server_signature l.mechanism v.keys (auth_message v.opening.first l.server_first v.final)))
acceptance_is_due l client_final server_final v = inr (record {
  opening = v.opening;
  final = v.final;
  is_opening = v.is_opening;
  is_final = v.is_final;
  is_verdict = (
    (v.not_mandatory, (v.nonce, (v.channel, ((v.keys, v.has_keys, v.proof), (v.allowed, tt))))),
    (v.keys, v.has_keys, refl),
  );
})

-- if acceptance is due, its signature is the server's
pub due_signature_is_servers : (l : Challenged) (client_final signature : List ℕ)
    → IsDue l client_final (accept signature) → (keys : Keys) × (auth : List ℕ) × (signature ≡ server_signature l.mechanism keys auth)
due_signature_is_servers l client_final signature (inl none) = absurd (refusal_is_not_acceptance InvalidEncoding signature (sym none.1))
due_signature_is_servers l client_final signature (inr due) =
    let signed = due.is_verdict.1 in
    (signed.0, auth_message due.opening.first l.server_first due.final, signed.2)

-- if acceptance is due, a text that shows the signature makes a valid login
accepted_login_is_valid : (l : Challenged) (client_final server_final signature : List ℕ)
    → IsDue l client_final (accept signature) → IsAuthentic server_final signature → IsValidLogin l client_final server_final
accepted_login_is_valid l client_final server_final signature (inl none) authentic = absurd
    (refusal_is_not_acceptance InvalidEncoding signature (sym none.1))
accepted_login_is_valid l client_final server_final signature (inr due) authentic =
    let (mandatory, (nonce, (channel, (proof, (allowed, rest))))) = due.is_verdict.0 in
    let signed = due.is_verdict.1 in
    let keys : signed.0 ≡ proof.0 = same_Some signed.0 proof.0 (sym signed.1 ∙ proof.1) in
    record {
      opening = due.opening;
      final = due.final;
      keys = proof.0;
      is_opening = due.is_opening;
      is_final = due.is_final;
      not_mandatory = mandatory;
      nonce = nonce;
      channel = channel;
      has_keys = proof.1;
      proof = proof.2;
      allowed = allowed;
      authentic = subst (λ (x : List ℕ). IsAuthentic server_final x)
          (signed.2 ∙ ap (λ (k : Keys). server_signature l.mechanism k
          (auth_message due.opening.first l.server_first due.final)) keys) authentic;
    }

-- the law: acceptance is due if and only if the login is valid
pub accepts_exactly_valid : AcceptsExactlyValid
accepts_exactly_valid l client_final server_final = (
  (λ (signature, due, authentic). accepted_login_is_valid l client_final server_final signature due authentic),
  λ v. (
    server_signature l.mechanism v.keys (auth_message v.opening.first l.server_first v.final),
    acceptance_is_due l client_final server_final v,
    v.authentic,
  ),
)
