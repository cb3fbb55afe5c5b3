-- The number of a verdict is 0 if and only if the login is valid.
use Rattle.std.proofs.Common.{◌≡◌, ◌↔◌, ℕ, List, sym, ◌∙◌, subst, refl}
use Rattle.scram_ends.specs.Stages.{Challenged}
use Rattle.scram_ends.specs.Verdict.{Due, accept, refuse, IsDue, due_text, verdict_of}
use Rattle.scram_ends.specs.Login.{IsValidLogin}
use Rattle.scram_ends.specs.declared.verdict.Refusal.{Refusal}
use Rattle.scram_ends.specs.declared.verdict.Refusal.TheVariants.{InvalidEncoding, ExtensionsNotSupported, OtherNonce, Channel, InvalidProof}
use Rattle.scram_ends.specs.declared.verdict.Refusal.TheVariants.{NotAuthorised}
use Rattle.scram_ends.specs.declared.verdict.Verdict.TheVariants as verdict
use Rattle.scram_ends.proofs.lemmas.DueMessages.{accepted_iff_valid}
use Rattle.c_library.specs.Numbers.{due_number, refusal_number}

-- the number of a refusal is not 0
refusal_is_not_zero : (r : Refusal) → refusal_number r ≡ 0 → ⊥
refusal_is_not_zero InvalidEncoding zero = cc
refusal_is_not_zero ExtensionsNotSupported zero = cc
refusal_is_not_zero OtherNonce zero = cc
refusal_is_not_zero Channel zero = cc
refusal_is_not_zero InvalidProof zero = cc
refusal_is_not_zero NotAuthorised zero = cc

-- the number of a verdict is 0 if and only if it accepts
zero_iff_accepted : (d : Due) → (due_number d ≡ 0) ↔ (verdict_of d ≡ verdict.Accepted)
zero_iff_accepted (accept signature) = (λ _. refl, λ _. refl)
zero_iff_accepted (refuse r) = (λ zero. absurd (refusal_is_not_zero r zero), λ accepted. cc)

-- the number that is told with the message due is 0 if and only if they are those of a valid login
pub zero_iff_valid : (l : Challenged) (client_final : List ℕ) (d : Due) (number : ℕ) (text : List ℕ)
    → IsDue l client_final d → number ≡ due_number d → text ≡ due_text d → (number ≡ 0) ↔ IsValidLogin l client_final text
zero_iff_valid l client_final d number text due is_number is_text =
    let accepted = zero_iff_accepted d in
    let valid = accepted_iff_valid l client_final d due in (
      (λ zero. subst (IsValidLogin l client_final) (sym is_text) (valid.0 (accepted.0 (sym is_number ∙ zero)))),
      λ is. is_number ∙ accepted.1 (valid.1 (subst (IsValidLogin l client_final) is_text is)),
    )
