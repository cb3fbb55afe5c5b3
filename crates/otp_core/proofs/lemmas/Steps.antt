-- One more attempt keeps two pasts alike, and leads to the token that a due reply makes.
use Rattle.std.proofs.Common.{◌≡◌, ◌≤◌, ◌+◌, ℕ, List, [], ◌∷◌, refl, sym, ap, subst, arith, ◌∙◌}
use Rattle.otp_core.specs.Ranges.{IsMoment, max_counter}
use Rattle.otp_core.specs.TokenRanges.{IsInRange}
use Rattle.otp_core.specs.Attempt.{Attempt, CodeTexts, attempt_of}
use Rattle.otp_core.specs.Reply.{IsDueReply}
use Rattle.otp_core.specs.History.{IsAfter, AreAlike}
use Rattle.otp_core.specs.State.{after_reply, after_pass}
use Rattle.otp_core.specs.TokenAttempt.{IsTokenAttempt}
use Rattle.otp_core.specs.declared.token.reply.Reply.{Reply}
use Rattle.otp_core.specs.declared.token.kinds.TokenFields.{TokenFields}
use Rattle.otp_core.specs.declared.token.kinds.TokenFields.TheVariants.{Hotp, Totp}
use Rattle.otp_core.proofs.lemmas.AlikePasts.{alike_is_transitive, alike_pasts_share_reply}
use Rattle.otp_core.proofs.lemmas.AfterReply.{reply_keeps_settings, reply_keeps_candidates_alike, token_agrees_after_reply}
use Rattle.otp_core.proofs.lemmas.Failures.{failures_after_reply, failures_by_reply, token_keeps_failures}

-- one more attempt keeps two pasts alike
pub attempt_keeps_pasts_alike : (s t : TokenFields) (h k : List Attempt) (m : ℕ) (sent : CodeTexts) (reply : Reply) → AreAlike s h t k
    → IsMoment m
    → IsDueReply t k m sent reply → AreAlike s (attempt_of m sent reply ∷ h) t (attempt_of m sent reply ∷ k)
attempt_keeps_pasts_alike s t h k m sent reply alike is due =
    let passing = reply_keeps_candidates_alike s t h k m sent reply alike is due in record {
      settings = alike.settings;
      failures = failures_by_reply s h m sent reply ∙ ap (failures_after_reply reply) alike.failures
          ∙ sym (failures_by_reply t k m sent reply);
      candidates = passing.0;
      pairs = passing.1;
    }

-- a due reply leads from a past to that past with the attempt added
due_reply_leads_on : (s t : TokenFields) (h : List Attempt) (m : ℕ) (sent : CodeTexts) (reply : Reply) → IsMoment m
    → IsAfter s h t → IsDueReply t [] m sent reply → IsAfter s (attempt_of m sent reply ∷ h) (after_reply t m reply)
due_reply_leads_on s t h m sent reply is after due =
    let passing = token_agrees_after_reply t m sent reply due in record {
      legal = (is, alike_pasts_share_reply s t h [] m sent reply after.alike is due, after.legal);
      alike = alike_is_transitive s t (after_reply t m reply) (attempt_of m sent reply ∷ h) (attempt_of m sent reply ∷ []) []
          (attempt_keeps_pasts_alike s t h [] m sent reply after.alike is due) (record {
            settings = reply_keeps_settings t m reply;
            failures = failures_by_reply t [] m sent reply ∙ token_keeps_failures t m reply;
            candidates = passing.0;
            pairs = passing.1;
          });
    }

-- if the token after a pass is in its ranges, the counter that passed is at most the greatest that can pass
passed_counter_is_in_range : (t : TokenFields) (m c : ℕ) → IsInRange (after_pass t m c) → c ≤ max_counter
passed_counter_is_in_range (Hotp t) m c range = let next : c + 1 ≤ max_counter + 1 = range.0.1 in omega arith
passed_counter_is_in_range (Totp t) m c range = (range.1.1.1.1.0 c refl).1

-- a due reply, and the token after it if it is in its ranges, are what an attempt gives
pub due_reply_is_attempt : (old : TokenFields) (m : ℕ) (sent : CodeTexts) (reply : Reply) (new : TokenFields) → IsMoment m
    → IsDueReply old [] m sent reply → new ≡ after_reply old m reply → IsInRange new → IsTokenAttempt old m sent reply new
due_reply_is_attempt old m sent reply new is due state range = record {
  due = λ start history after. alike_pasts_share_reply start old history [] m sent reply after.alike is due;
  after = λ start history after. subst (λ (t : TokenFields). IsAfter start (attempt_of m sent reply ∷ history) t) (sym state)
      (due_reply_leads_on start old history m sent reply is after due);
  state = state;
  counter = λ c same. passed_counter_is_in_range old m c (subst IsInRange (state ∙ ap (after_reply old m) same) range);
}
