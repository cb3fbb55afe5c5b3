-- The message due makes a valid login if and only if the verdict accepts.
use Rattle.std.proofs.Common.{◌≡◌, ◌↔◌, ℕ, List, length, sym, ◌∙◌, ap, subst, refl, arith}
use Rattle.mac_core.specs.Mechanism.{digest_len_by}
use Rattle.mac_core.proofs.lemmas.Lengths.{length-hmac_by}
use Rattle.mac_core.proofs.lemmas.Digests.{AreBytes, mac_is_bytes}
use Rattle.scram_ends.specs.Stages.{Challenged}
use Rattle.scram_ends.specs.Verdict.{Due, accept, refuse, IsDue, due_text, verdict_of}
use Rattle.scram_ends.specs.Login.{IsAuthentic, IsValidLogin}
use Rattle.scram_ends.specs.declared.verdict.Refusal.{Refusal}
use Rattle.scram_ends.specs.declared.verdict.Verdict.TheVariants as verdict
use Rattle.scram_ends.proofs.lemmas.HonestLogins.{digest_length_is_in_range, due_text_is_authentic}
use Rattle.scram_ends.proofs.lemmas.Verdicts.{refusal_is_not_acceptance, at_most_one_verdict_is_due, due_signature_is_servers, accepts_exactly_valid}

-- if acceptance is due, the message due has the signature as its verifier
acceptance_due_is_authentic : (l : Challenged) (client_final signature : List ℕ)
    → IsDue l client_final (accept signature) → IsAuthentic (due_text (accept signature)) signature
acceptance_due_is_authentic l client_final signature due =
    let (keys, auth, signed) = due_signature_is_servers l client_final signature due in
    let long : length signature ≡ digest_len_by l.mechanism = ap length signed ∙ length-hmac_by l.mechanism keys.server auth in
    let range = digest_length_is_in_range l.mechanism in
    due_text_is_authentic signature (subst AreBytes (sym signed) (mac_is_bytes l.mechanism keys.server auth))
    (omega (arith, long, range.0)) (omega (arith, long, range.1))

-- a verdict that refuses is not the one that accepts
refused_verdict_is_not_accepted : (r : Refusal) → verdict.Refused r ≡ verdict.Accepted → ⊥
refused_verdict_is_not_accepted r same = cc

-- acceptance with the message due makes a valid login, and a refusal makes none
pub accepted_iff_valid : (l : Challenged) (client_final : List ℕ) (d : Due)
    → IsDue l client_final d → (verdict_of d ≡ verdict.Accepted) ↔ IsValidLogin l client_final (due_text d)
accepted_iff_valid l client_final (accept signature) due = (
  (λ _. (accepts_exactly_valid l client_final (due_text (accept signature))).0
      (signature, due, acceptance_due_is_authentic l client_final signature due)),
  λ _. refl,
)
accepted_iff_valid l client_final (refuse r) due = (
  (λ same. absurd (refused_verdict_is_not_accepted r same)),
  λ valid. let accepted = (accepts_exactly_valid l client_final (due_text (refuse r))).1 valid in
      absurd (refusal_is_not_acceptance r accepted.0
      (at_most_one_verdict_is_due l client_final (refuse r) (accept accepted.0) due accepted.1)),
)
