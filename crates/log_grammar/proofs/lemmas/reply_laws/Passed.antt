-- Codes that passed in a log.
use Rattle.std.proofs.Common.{All, le-leb, get_or, arith, ◌≡◌, inl, inr, ℕ, ◌+◌, ◌<◌, true, List, [], ◌∷◌, ◌++◌, reverse, refl, sym, ◌∙◌, ap, subst}
use Rattle.std.proofs.Common.{append_assoc}
use Rattle.std.proofs.lemmas.List.{reverse-append}
use Rattle.std.specs.declared.option.Option.{Option}
use Rattle.std.specs.declared.option.Option.TheVariants.{None, Some}
use Rattle.std.specs.Str.{byte}
use Rattle.std.specs.Char.{IsAsciiDigit}
use Rattle.std.specs.List.{list_all}
use Rattle.std.proofs.lemmas.List.Elements.{All-get_or}
use Rattle.std.proofs.lemmas.List.Sums.{list_all-from_AllPass}
use Rattle.otp_core.specs.Ranges.{IsDigitCount, IsCounter}
use Rattle.otp_core.specs.Code.{IsCodeText}
use Rattle.otp_core.specs.declared.token.kinds.TokenFields.TheVariants.{Hotp}
use Rattle.otp_core.specs.declared.token.kinds.HotpFields.{HotpFields}
use Rattle.otp_core.specs.Attempt.{Attempt, CodeTexts, one_text, two_texts, counters_of, used_in}
use Rattle.otp_core.specs.Window.{IsAbove, IsInHotpWindow}
use Rattle.otp_core.specs.Reply.{IsDueReply, IsFitting, code_text}
use Rattle.otp_core.specs.declared.token.reply.Reply.{Reply}
use Rattle.otp_core.specs.declared.token.reply.Reply.TheVariants.{Pass, Fail, Locked}
use Rattle.otp_core.specs.declared.token.kinds.TokenFields.{TokenFields}
use Rattle.otp_core.proofs.lemmas.Digits.{IsCodeText-last_digits}
use Rattle.otp_core.proofs.lemmas.Used.{candidates_are_new}
use Rattle.scram_text.specs.Class.{is_vchar}
use Rattle.account_book.specs.AccountAttempt.{AccountAttempt, account_attempt_of}
use Rattle.log_grammar.specs.Words.{IsCodeWord}
use Rattle.log_grammar.specs.Lines.{LogLine}
use Rattle.log_grammar.specs.Places.{Place, waits_code, got_code}
use Rattle.log_grammar.specs.Demands.{Accounts, attempts_by, attempts_of, IsReplyDueBy, demands}
use Rattle.log_grammar.specs.Begins.{Begins}
use Rattle.log_grammar.specs.laws.Outcomes.{IsReplied}
use Rattle.log_grammar.specs.laws.Replies.{pass_line, IsCodeOf, EachPassIsACode, CountersRise, NextHotpCodePasses, NextTwoHotpCodesPass}
use Rattle.log_grammar.proofs.lemmas.demands.RepliesDue.{first_reply_stands_last}
use Rattle.log_grammar.proofs.lemmas.outcome_laws.ServerLines.{first_lines_begin_logs, each_reply_is_due}
use Rattle.log_grammar.proofs.lemmas.state_machine.PlaceBefore.{logs_have_one_reading}
use Rattle.log_grammar.proofs.lemmas.demands.EachAccount.{account_is_same_or_other}
use Rattle.log_grammar.proofs.lemmas.login_laws.CleanLogins.{logins_are_answered}

-- if a PASS is due, there is a token, which a code of its counter fits
pub due_pass_fits_token : (o : Option TokenFields) (attempts : List Attempt) (moment counter : ℕ) (sent : CodeTexts)
    → IsReplyDueBy o attempts moment sent (Some (Pass counter))
    → (token : TokenFields) × (o ≡ Some token) × IsFitting token attempts moment sent counter
due_pass_fits_token None attempts moment counter sent due = absurd (cc due)
due_pass_fits_token (Some token) attempts moment counter sent (reply, is, due) =
    let same : reply ≡ Pass counter = cc (sym is) in
    (token, refl, (subst (λ (r : Reply). IsDueReply token attempts moment sent r) same due).1)

-- a PASS that may stand is for a code that could pass then
replied_pass_is_code : (accounts : Accounts) (log : List LogLine) (moment counter : ℕ) (next : Place) (told : List AccountAttempt)
    → IsReplied accounts log moment (Some (Pass counter)) next told → IsCodeOf accounts log moment counter next
replied_pass_is_code accounts log moment counter next told r =
    let (token, has, fits) =
    due_pass_fits_token (accounts.token r.account) (attempts_of r.account (reverse r.told)) moment counter r.sent r.due in
    record {
      account = r.account;
      sent = r.sent;
      told = r.told;
      token = token;
      after = r.after;
      has_token = has;
      fits = fits;
      is_next = r.is_next;
    }

-- the law: PASS stands only after the code of its counter, which could pass then, or after two codes in a row of which the second is its
-- counter's
pub each_pass_is_a_code : EachPassIsACode
each_pass_is_a_code accounts log moment counter next told begins =
    replied_pass_is_code accounts log moment counter next told
    ((each_reply_is_due accounts log moment (Some (Pass counter)) next told).0 begins)

-- if a number is above these counters, so is the next number
next_number_is_above : (counters : List ℕ) (w c : ℕ) → c ≡ w + 1 → IsAbove counters w → IsAbove counters c
next_number_is_above [] w c next above = tt
next_number_is_above (p ∷ counters) w c next above = (omega (arith, next, above.0), next_number_is_above counters w c next above.1)

-- a counter that fits one code, or the second of two, is above all that passed
pub fitting_counter_is_above : (token : TokenFields) (attempts : List Attempt) (moment : ℕ) (sent : CodeTexts) (c : ℕ)
    → IsFitting token attempts moment sent c → IsAbove (used_in attempts) c
fitting_counter_is_above token attempts moment (one_text text) c fits = candidates_are_new token attempts moment c (inl fits.0)
fitting_counter_is_above token attempts moment (two_texts first second) c fits =
    next_number_is_above (used_in attempts) fits.0 c fits.1 (candidates_are_new token attempts moment fits.0 (inr fits.2))

-- a number above the counters that a pass uses and those that passed before is above the pass's own counter and above those before
number_is_above_used : (sent : CodeTexts) (c : ℕ) (counters : List ℕ) (d : ℕ) → IsAbove (counters_of sent c ++ counters) d → (c < d)
    × IsAbove counters d
number_is_above_used (one_text text) c counters d above = above
number_is_above_used (two_texts first second) c counters d above = (above.0, above.1.1)

-- a number above all counters that passed is above those that passed in fewer attempts
number_is_above_fewer : (t : AccountAttempt) (reply : Option Reply) (attempts : List Attempt) (d : ℕ)
    → IsAbove (used_in (attempts_by t reply attempts)) d → IsAbove (used_in attempts) d
number_is_above_fewer t None attempts d above = above
number_is_above_fewer t (Some (Pass c)) attempts d above = (number_is_above_used t.sent c (used_in attempts) d above).1
number_is_above_fewer t (Some Fail) attempts d above = above
number_is_above_fewer t (Some Locked) attempts d above = above

-- a number above all counters that passed in some replies is above those that passed before the latest of them
number_is_above_before : (account : List ℕ) (t : AccountAttempt) (before : List AccountAttempt) (d : ℕ)
    → IsAbove (used_in (attempts_of account (t ∷ before))) d → IsAbove (used_in (attempts_of account before)) d
number_is_above_before account t before d above = elim (account_is_same_or_other t account) [
  | inl is ↦ number_is_above_fewer t t.reply (attempts_of account before) d (rw is.1 at above)
  | inr other ↦ rw other.0 at above
]

-- a number above all counters that passed in some replies is above those that passed in the earlier of them
number_is_above_earlier : (account : List ℕ) (late early : List AccountAttempt) (d : ℕ)
    → IsAbove (used_in (attempts_of account (late ++ early))) d → IsAbove (used_in (attempts_of account early)) d
number_is_above_earlier account [] early d above = above
number_is_above_earlier account (t ∷ late) early d above =
    number_is_above_earlier account late early d (number_is_above_before account t (late ++ early) d above)

-- a number above all counters that passed in some replies is above the counter of each pass among them
number_is_above_pass : (account : List ℕ) (t : AccountAttempt) (before : List AccountAttempt) (c d : ℕ) → t.account ≡ account
    → t.reply ≡ Some (Pass c) → IsAbove (used_in (attempts_of account (t ∷ before))) d → c < d
number_is_above_pass account t before c d is passes above = elim (account_is_same_or_other t account) [
  | inl same ↦
      let taken : IsAbove (used_in (attempts_by t t.reply (attempts_of account before))) d = rw same.1 at above in
      let by = subst (λ (r : Option Reply). IsAbove (used_in (attempts_by t r (attempts_of account before))) d) passes taken in
      (number_is_above_used t.sent c (used_in (attempts_of account before)) d by).0
  | inr other ↦ absurd (other.1 is)
]

-- a list reversed is what followed one of its elements, reversed, then this element, then what preceded it, reversed
reverse-append_element : (front middle : List AccountAttempt) (t : AccountAttempt)
    → reverse (front ++ t ∷ middle) ≡ reverse middle ++ t ∷ reverse front
reverse-append_element front middle t = reverse-append front (t ∷ middle) ∙ first_reply_stands_last t middle (reverse front)

-- of two passes of one account the later has the greater counter
pub later_pass_is_greater : (token : TokenFields) (account : List ℕ) (last : CodeTexts) (told : List AccountAttempt)
    (at d : ℕ)
    → IsFitting token (attempts_of account (reverse told)) at last d
    → (mine : List ℕ) (moment counter : ℕ) (sent : CodeTexts) (before rest : List AccountAttempt)
    → mine ≡ account → told ≡ (before ++ account_attempt_of mine moment sent (Some (Pass counter)) ∷ []) ++ rest → counter < d
later_pass_is_greater token account last told at d fits mine moment counter sent before rest same told_are =
    let t = account_attempt_of mine moment sent (Some (Pass counter)) in
    let above = fitting_counter_is_above token (attempts_of account (reverse told)) at last d fits in
    let split = told_are ∙ append_assoc before (t ∷ []) rest in
    let turned = subst (λ (l : List AccountAttempt). IsAbove (used_in (attempts_of account (reverse l))) d) split above in
    let here = subst (λ (l : List AccountAttempt). IsAbove (used_in (attempts_of account l)) d) (reverse-append_element before rest t)
    turned in
    number_is_above_pass account t (reverse before) counter d same refl (number_is_above_earlier account (reverse rest) (t ∷ reverse before)
    d here)

-- the law: of two passes of one account in a log, in any sessions, the later has the greater counter
pub counters_rise : CountersRise
counters_rise accounts log more account moment counter at greater told all begins both =
    let first = log ++ pass_line moment counter ∷ [] in
    let one = (each_reply_is_due accounts log moment (Some (Pass counter)) (waits_code account) told).0 begins in
    let split = sym (append_assoc first more (pass_line at greater ∷ [])) in
    let two = each_pass_is_a_code accounts (first ++ more) at greater (waits_code account) all
    (subst (λ (l : List LogLine). Begins (demands accounts) l (waits_code account) all) split both) in
    let front = first_lines_begin_logs accounts first more (got_code two.account two.sent) two.told two.after in
    let same = (logs_have_one_reading accounts first front.0 (waits_code account) front.1 told front.3 begins).1 in
    let told_are = front.4 ∙ ap (λ (l : List AccountAttempt). l ++ front.2) (same ∙ one.told_are) in
    let mine : one.account ≡ two.account = cc (sym one.is_next ∙ two.is_next) in
    later_pass_is_greater two.token two.account two.sent two.told at greater two.fits one.account moment counter one.sent one.told
    front.2 mine told_are

-- a digit can be a character of a code
digit_is_vchar : (c : ℕ) → IsAsciiDigit c → is_vchar c ≡ true
digit_is_vchar c is = rw (le-leb (byte "!") c (omega (arith, is)), le-leb c (byte "~") (omega (arith, is))) refl

-- each digit of a text of digits can be a character of a code
digits_are_vchars : (text : List ℕ) → All IsAsciiDigit text → list_all is_vchar text ≡ true
digits_are_vchars text all = list_all-from_AllPass is_vchar text
    (λ k d within. digit_is_vchar (get_or text k d) (All-get_or IsAsciiDigit text k d within all))

-- the text of a code can be sent by a client
code_text_is_code_word : (text : List ℕ) → IsCodeText text → IsCodeWord text
code_text_is_code_word text is = record {
  at_least = omega (arith, is.count.0);
  at_most = omega (arith, is.count.1);
  each = digits_are_vchars text is.digits;
}

-- the code of a HOTP token's next counter passes, if failures do not lock the token and the counter can pass
pass_is_due_to_next : (t : HotpFields) (moment : ℕ) → t.failures < t.limit → IsCounter t.next
    → IsDueReply (Hotp t) [] moment (one_text (code_text (Hotp t) t.next)) (Pass t.next)
pass_is_due_to_next t moment unlocked counter =
    let due : IsInHotpWindow t.next t.look_ahead t.next =
    record { not_before = omega arith; within = omega arith; most = omega (arith, counter) } in
    (omega arith, (due, refl), λ k fits. fits.0.not_before)

-- the law: after a valid login, the code of a HOTP token's next counter passes, if failures do not lock the token and the counter is not
-- used up
pub next_hotp_code_passes : NextHotpCodePasses
next_hotp_code_passes accounts mechanism name exchange moment t login at has unlocked digits counter =
    let text = code_text (Hotp t) t.next in
    let due = pass_is_due_to_next t moment unlocked counter in
    let by = subst (λ (o : Option TokenFields). IsReplyDueBy o [] moment (one_text text) (Some (Pass t.next))) (sym has)
    (Pass t.next, refl, due) in
    logins_are_answered accounts mechanism name exchange (one_text text) moment (Some (Pass t.next)) login
    (code_text_is_code_word text (IsCodeText-last_digits t.digits _ digits)) at counter by

-- the codes of a HOTP token's next two counters, sent in a row, pass if failures do not lock the token and the counters can pass
pub pass_is_due_to_two : (t : HotpFields) (moment : ℕ) → t.failures < t.limit → IsCounter (t.next + 1)
    → IsDueReply (Hotp t) [] moment (two_texts (code_text (Hotp t) t.next) (code_text (Hotp t) (t.next + 1))) (Pass (t.next + 1))
pass_is_due_to_two t moment unlocked counter =
    let due : IsInHotpWindow t.next t.sync_ahead t.next =
    record { not_before = omega arith; within = omega arith; most = omega (arith, counter) } in
    (omega arith, (t.next, refl, (due, omega (arith, counter)), refl, refl), λ k fits. omega (arith, fits.1, fits.2.0.not_before))

-- the codes of a HOTP token's next two counters can be sent
pub next_two_are_code_words : (t : HotpFields) → IsDigitCount t.digits → IsCodeWord (code_text (Hotp t) t.next)
    × IsCodeWord (code_text (Hotp t) (t.next + 1))
next_two_are_code_words t digits = (
  code_text_is_code_word (code_text (Hotp t) t.next) (IsCodeText-last_digits t.digits _ digits),
  code_text_is_code_word (code_text (Hotp t) (t.next + 1)) (IsCodeText-last_digits t.digits _ digits),
)

-- the law: after a valid login, the codes of a HOTP token's next two counters, sent in a row, pass with the second counter, if failures do
-- not lock the token and neither is used up
pub next_two_hotp_codes_pass : NextTwoHotpCodesPass
next_two_hotp_codes_pass accounts mechanism name exchange moment t login at has unlocked digits counter =
    let sent = two_texts (code_text (Hotp t) t.next) (code_text (Hotp t) (t.next + 1)) in
    let by = subst (λ (o : Option TokenFields). IsReplyDueBy o [] moment sent (Some (Pass (t.next + 1)))) (sym has)
    (Pass (t.next + 1), refl, pass_is_due_to_two t moment unlocked counter) in
    logins_are_answered accounts mechanism name exchange sent moment (Some (Pass (t.next + 1))) login (next_two_are_code_words t digits) at
    counter by
