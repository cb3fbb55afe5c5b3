-- Small logs in which two codes in a row get another reply than the one due.
use Rattle.std.proofs.Common.{◌≡◌, ℕ, ◌+◌, ◌<◌, List, [], ◌∷◌, ◌++◌, refl, sym, subst, arith}
use Rattle.std.specs.declared.option.Option.{Option}
use Rattle.std.specs.declared.option.Option.TheVariants.{Some}
use Rattle.otp_core.specs.Attempt.{two_texts}
use Rattle.otp_core.specs.Ranges.{IsDigitCount, IsMoment, IsCounter}
use Rattle.otp_core.specs.Reply.{IsDueReply, code_text}
use Rattle.otp_core.specs.declared.token.reply.Reply.TheVariants.{Pass, Fail}
use Rattle.otp_core.specs.declared.token.kinds.TokenFields.{TokenFields}
use Rattle.otp_core.specs.declared.token.kinds.TokenFields.TheVariants.{Hotp, Totp}
use Rattle.otp_core.specs.declared.token.kinds.HotpFields.{HotpFields}
use Rattle.otp_core.specs.declared.token.kinds.TotpFields.{TotpFields}
use Rattle.log_grammar.specs.Words.{IsCodeWord}
use Rattle.log_grammar.specs.Lines.{heard, sync}
use Rattle.log_grammar.specs.Demands.{Accounts, IsReplyDueBy}
use Rattle.log_grammar.specs.Why.{other_reply}
use Rattle.log_grammar.specs.Versions.{IsWhy}
use Rattle.log_grammar.specs.laws.Logins.{Exchange, IsLoginTo, login_session, original_bytes}
use Rattle.log_grammar.specs.laws.Replies.{pass_line, next_two}
use Rattle.log_grammar.proofs.lemmas.reply_laws.Passed.{pass_is_due_to_two, next_two_are_code_words}
use Rattle.log_grammar.proofs.lemmas.login_laws.OtherAnswers.{other_replies_are_at_fault}

-- after a valid login, a pass of two codes in a row with the first one's counter is at fault in line 8: a pass with the second is due
pub first_counter_is_at_fault : (accounts : Accounts) (mechanism name : List ℕ) (exchange : Exchange) (moment : ℕ) (t : HotpFields)
    → IsLoginTo accounts mechanism name exchange → IsMoment moment → accounts.token name ≡ Some (Hotp t)
    → t.failures < t.limit → IsDigitCount t.digits → IsCounter (t.next + 1)
    → IsWhy accounts (original_bytes (login_session mechanism exchange ++ next_two t ∷ pass_line moment t.next ∷ [])) 8
    (other_reply moment (Some (Pass (t.next + 1))))
first_counter_is_at_fault accounts mechanism name exchange moment t login at has unlocked digits counter =
    let sent = two_texts (code_text (Hotp t) t.next) (code_text (Hotp t) (t.next + 1)) in
    let by = subst (λ (o : Option TokenFields). IsReplyDueBy o [] moment sent (Some (Pass (t.next + 1)))) (sym has)
    (Pass (t.next + 1), refl, pass_is_due_to_two t moment unlocked counter) in
    other_replies_are_at_fault accounts mechanism name exchange sent moment (Some (Pass t.next)) (Some (Pass (t.next + 1))) login
    (next_two_are_code_words t digits) at
    (omega (arith, counter)) by
    (λ same. let next : t.next ≡ t.next + 1 = cc same in omega (arith, next))

-- two codes in a row fail with a TOTP token that failures do not lock
two_totp_codes_fail : (t : TotpFields) (moment : ℕ) (first second : List ℕ) → t.failures < t.limit
    → IsDueReply (Totp t) [] moment (two_texts first second) Fail
two_totp_codes_fail t moment first second unlocked = (omega arith, λ k fits. fits.2)

-- after a valid login, a pass of two codes in a row with a TOTP token that failures do not lock is at fault in line 8: FAIL is due
pub totp_pass_is_at_fault : (accounts : Accounts) (mechanism name : List ℕ) (exchange : Exchange) (first second : List ℕ)
    (moment counter : ℕ) (t : TotpFields)
    → IsLoginTo accounts mechanism name exchange → IsMoment moment → accounts.token name ≡ Some (Totp t)
    → t.failures < t.limit → IsCodeWord first → IsCodeWord second → IsCounter counter
    → IsWhy accounts (original_bytes (login_session mechanism exchange ++ heard (sync first second) ∷ pass_line moment counter ∷ [])) 8
    (other_reply moment (Some Fail))
totp_pass_is_at_fault accounts mechanism name exchange first second moment counter t login at has unlocked one other range =
    let sent = two_texts first second in
    let by = subst (λ (o : Option TokenFields). IsReplyDueBy o [] moment sent (Some Fail)) (sym has)
    (Fail, refl, two_totp_codes_fail t moment first second unlocked) in
    other_replies_are_at_fault accounts mechanism name exchange sent moment (Some (Pass counter)) (Some Fail) login (one, other) at range
    by (λ same. cc same)
