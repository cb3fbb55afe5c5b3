-- Pasts that are alike: what fits after one, and which replies are due, is the same after the other.
use Rattle.std.proofs.Common.{◌≡◌, ◌<◌, ◌+◌, ◌↔◌, ℕ, List, refl, sym, ap, arith, ◌∙◌}
use Rattle.otp_core.specs.Ranges.{IsMoment}
use Rattle.otp_core.specs.Attempt.{Attempt, CodeTexts}
use Rattle.otp_core.specs.Attempt.CodeTexts.{one_text, two_texts}
use Rattle.otp_core.specs.Reply.{IsDueReply, IsFitting, code_text, limit_of, failures_after}
use Rattle.otp_core.specs.History.{AreAlike, without_state}
use Rattle.otp_core.specs.declared.token.reply.Reply.{Reply}
use Rattle.otp_core.specs.declared.token.reply.Reply.TheVariants.{Pass, Fail, Locked}
use Rattle.otp_core.specs.declared.token.kinds.TokenFields.{TokenFields}
use Rattle.otp_core.specs.declared.token.kinds.TokenFields.TheVariants.{Hotp, Totp}

-- a token's limit is one of its settings
settings_keep_limit : (s : TokenFields) → limit_of (without_state s) ≡ limit_of s
settings_keep_limit (Hotp s) = refl
settings_keep_limit (Totp s) = refl

-- a token's codes depend only on its settings
settings_keep_codes : (s : TokenFields) (c : ℕ) → code_text (without_state s) c ≡ code_text s c
settings_keep_codes (Hotp s) c = refl
settings_keep_codes (Totp s) c = refl

-- tokens with the same settings have the same limit of failures
same_settings_give_same_limit : (s t : TokenFields) → without_state s ≡ without_state t → limit_of s ≡ limit_of t
same_settings_give_same_limit s t e = sym (settings_keep_limit s) ∙ (ap limit_of e ∙ settings_keep_limit t)

-- tokens with the same settings have the same code at each counter
same_settings_give_same_codes : (s t : TokenFields) (c : ℕ) → without_state s ≡ without_state t → code_text s c ≡ code_text t c
same_settings_give_same_codes s t c e = sym (settings_keep_codes s c) ∙ (ap (λ f. code_text f c) e ∙ settings_keep_codes t c)

-- an equivalence is also true the other way round
pub iff_is_symmetric : {A B : Type 0} → A ↔ B → B ↔ A
iff_is_symmetric one = (one.1, one.0)

-- if one side is equivalent to a second, and that to a third, then the first is equivalent to the third
pub iff_is_transitive : {A B C : Type 0} → A ↔ B → B ↔ C → A ↔ C
iff_is_transitive one other = ((λ x. other.0 (one.0 x)), (λ x. one.1 (other.1 x)))

-- two pasts that are alike are alike the other way round
pub alike_is_symmetric : (s t : TokenFields) (h k : List Attempt) → AreAlike s h t k → AreAlike t k s h
alike_is_symmetric s t h k alike = record {
  settings = sym alike.settings;
  failures = sym alike.failures;
  candidates = λ m c is. iff_is_symmetric (alike.candidates m c is);
  pairs = λ c. iff_is_symmetric (alike.pairs c);
}

-- if one past is alike to a second, and the second to a third, the first is alike to the third
pub alike_is_transitive : (s t u : TokenFields) (h k l : List Attempt) → AreAlike s h t k → AreAlike t k u l → AreAlike s h u l
alike_is_transitive s t u h k l one other = record {
  settings = one.settings ∙ other.settings;
  failures = one.failures ∙ other.failures;
  candidates = λ m c is. iff_is_transitive (one.candidates m c is) (other.candidates m c is);
  pairs = λ c. iff_is_transitive (one.pairs c) (other.pairs c);
}

-- a counter that fits after one of two alike pasts fits after the other
pub alike_pasts_share_fitting : (s t : TokenFields) (h k : List Attempt) (m : ℕ) (sent : CodeTexts) (c : ℕ) → AreAlike s h t k → IsMoment m
    → IsFitting s h m sent c → IsFitting t k m sent c
alike_pasts_share_fitting s t h k m (one_text text) c alike is fits =
    ((alike.candidates m c is).0 fits.0, sym (same_settings_give_same_codes s t c alike.settings) ∙ fits.1)
alike_pasts_share_fitting s t h k m (two_texts one other) c alike is (first_counter, next, pair, first, second) = (
  first_counter,
  next,
  (alike.pairs first_counter).0 pair,
  sym (same_settings_give_same_codes s t first_counter alike.settings) ∙ first,
  sym (same_settings_give_same_codes s t (first_counter + 1) alike.settings) ∙ second,
)

-- a reply that is due after one of two alike pasts is due after the other
pub alike_pasts_share_reply : (s t : TokenFields) (h k : List Attempt) (m : ℕ) (sent : CodeTexts) (reply : Reply) → AreAlike s h t k
    → IsMoment m
    → IsDueReply t k m sent reply → IsDueReply s h m sent reply
alike_pasts_share_reply s t h k m sent Locked alike is due =
    let limit = same_settings_give_same_limit s t alike.settings in
    let failures = alike.failures in omega arith
alike_pasts_share_reply s t h k m sent Fail alike is due =
    let limit = same_settings_give_same_limit s t alike.settings in
    let failures = alike.failures in
    let below_limit : failures_after t k < limit_of t = due.0 in
    (omega arith, λ c fits. due.1 c (alike_pasts_share_fitting s t h k m sent c alike is fits))
alike_pasts_share_reply s t h k m sent (Pass p) alike is due =
    let limit = same_settings_give_same_limit s t alike.settings in
    let failures = alike.failures in
    let below_limit : failures_after t k < limit_of t = due.0 in (
      (omega arith),
      alike_pasts_share_fitting t s k h m sent p (alike_is_symmetric s t h k alike) is due.1,
      λ c fits. due.2 c (alike_pasts_share_fitting s t h k m sent c alike is fits),
    )
