-- How one more attempt changes the failures: a Pass ends them, a Fail adds one, and Locked adds none.
use Rattle.std.proofs.Common.{◌≡◌, ◌+◌, ℕ, List, [], ◌∷◌, refl, ap, ◌∙◌, arith}
use Rattle.std.proofs.lemmas.List.Sums.{sum_by-cons, take_while-cons}
use Rattle.std.specs.Prelude.{cond, count_by, is_some, not}
use Rattle.std.specs.List.{before_first}
use Rattle.otp_core.specs.Attempt.{Attempt, CodeTexts, attempt_of, passed_counter}
use Rattle.otp_core.specs.Reply.{failures_after, is_fail}
use Rattle.otp_core.specs.State.{after_reply}
use Rattle.otp_core.specs.declared.token.reply.Reply.{Reply}
use Rattle.otp_core.specs.declared.token.reply.Reply.TheVariants.{Pass, Fail, Locked}
use Rattle.otp_core.specs.declared.token.kinds.TokenFields.{TokenFields}
use Rattle.otp_core.specs.declared.token.kinds.TokenFields.TheVariants.{Hotp, Totp}

-- the failures after one more reply, given those before it
abbrev pub failures_after_reply : Reply → (before : ℕ) → ℕ
failures_after_reply (Pass counter) before = 0
failures_after_reply Fail before = before + 1
failures_after_reply Locked before = before

-- the attempts of a history that stand after its last Pass, latest first
abbrev since_pass : List Attempt → List Attempt
since_pass history = before_first (λ a. is_some (passed_counter a.reply)) history

-- the number of Fails among some attempts
abbrev fails_in : List Attempt → ℕ
fails_in attempts = count_by (λ a. is_fail a.reply) attempts

-- a Fail after the last Pass is one more
fail_is_counted : (history : List Attempt) (moment : ℕ) (sent : CodeTexts)
    → fails_in (since_pass (attempt_of moment sent Fail ∷ history)) ≡ 1 + fails_in (since_pass history)
fail_is_counted history moment sent =
    ap fails_in (take_while-cons (λ (a : Attempt). not (is_some (passed_counter a.reply))) (attempt_of moment sent Fail) history)
    ∙ sum_by-cons (λ (a : Attempt). cond (is_fail a.reply) 1 0) (attempt_of moment sent Fail) (since_pass history)

-- a Locked after the last Pass is none
locked_is_not_counted : (history : List Attempt) (moment : ℕ) (sent : CodeTexts)
    → fails_in (since_pass (attempt_of moment sent Locked ∷ history)) ≡ 0 + fails_in (since_pass history)
locked_is_not_counted history moment sent =
    ap fails_in (take_while-cons (λ (a : Attempt). not (is_some (passed_counter a.reply))) (attempt_of moment sent Locked) history)
    ∙ sum_by-cons (λ (a : Attempt). cond (is_fail a.reply) 1 0) (attempt_of moment sent Locked) (since_pass history)

-- the failures after a history with one more attempt are those after its reply
pub failures_by_reply : (start : TokenFields) (history : List Attempt) (moment : ℕ) (sent : CodeTexts) (reply : Reply)
    → failures_after start (attempt_of moment sent reply ∷ history) ≡ failures_after_reply reply (failures_after start history)
failures_by_reply start history moment sent (Pass counter) = refl
failures_by_reply start history moment sent Fail = let counted = fail_is_counted history moment sent in omega arith
failures_by_reply start history moment sent Locked = let counted = locked_is_not_counted history moment sent in omega arith

-- a token after a reply has the failures that this reply leaves
pub token_keeps_failures : (t : TokenFields) (moment : ℕ) (reply : Reply)
    → failures_after_reply reply (failures_after t []) ≡ failures_after (after_reply t moment reply) []
token_keeps_failures (Hotp t) moment (Pass counter) = refl
token_keeps_failures (Hotp t) moment Fail = omega arith
token_keeps_failures (Hotp t) moment Locked = refl
token_keeps_failures (Totp t) moment (Pass counter) = refl
token_keeps_failures (Totp t) moment Fail = omega arith
token_keeps_failures (Totp t) moment Locked = refl
