-- Counters that can pass are above those that were used.
use Rattle.std.proofs.Common.{◌≡◌, ◌≤◌, ◌<◌, ◌+◌, ◌++◌, inl, inr, ℕ, List, [], ◌∷◌, Option, Some, None, max, refl, arith}
use Rattle.std.specs.Option.{option_map_or}
use Rattle.otp_core.specs.Attempt.{Attempt, CodeTexts, counters_of, used_in_reply, used_in}
use Rattle.otp_core.specs.Attempt.CodeTexts.{one_text, two_texts}
use Rattle.otp_core.specs.Window.{IsAbove, first_in_window, greatest}
use Rattle.otp_core.specs.Reply.{IsDueReply, IsFitting}
use Rattle.otp_core.specs.History.{IsLegal}
use Rattle.otp_core.specs.Laws.{CandidatesAreNew, UsedStaysUsed}
use Rattle.otp_core.specs.declared.token.reply.Reply.{Reply}
use Rattle.otp_core.specs.declared.token.reply.Reply.TheVariants.{Pass, Fail, Locked}
use Rattle.otp_core.specs.declared.token.kinds.HotpFields.{HotpFields}
use Rattle.otp_core.specs.declared.token.kinds.TokenFields.TheVariants.{Hotp, Totp}
use Rattle.otp_core.proofs.lemmas.AfterReply.{pass_moves_first}

-- a number above the greater of an optional number and another is above both
above_max_is_above_both : (o : Option ℕ) (x c : ℕ) → option_map_or (λ most. max x most) o x < c
    → (x < c) × ((m : ℕ) → o ≡ Some m → m < c)
above_max_is_above_both None x c h = (h, λ m is. absurd (cc))
above_max_is_above_both (Some g) x c h = ((omega arith), λ m is. let same : g ≡ m = cc in omega arith)

-- a number above the greatest of some counters is above each
above_greatest_is_above_all : (counters : List ℕ) (c : ℕ) → ((m : ℕ) → greatest counters ≡ Some m → m < c) → IsAbove counters c
above_greatest_is_above_all [] c h = tt
above_greatest_is_above_all (x ∷ counters) c h =
    let parts = above_max_is_above_both (greatest counters) x c (h _ refl) in
    (parts.0, above_greatest_is_above_all counters c parts.1)

-- a number from HOTP's first counter on is above the greatest that passed
window_is_above_greatest : (o : Option ℕ) (next c : ℕ) → option_map_or (λ m. m + 1) o next ≤ c → (m : ℕ) → o ≡ Some m → m < c
window_is_above_greatest None next c h m is = absurd (cc)
window_is_above_greatest (Some g) next c h m is = let same : g ≡ m = cc in omega arith

-- a number from HOTP's first counter on is above each counter that was used
window_is_above_used : (t : HotpFields) (history : List Attempt) (c : ℕ) → first_in_window t.next (used_in history) ≤ c
    → IsAbove (used_in history) c
window_is_above_used t history c reached =
    above_greatest_is_above_all (used_in history) c (window_is_above_greatest (greatest (used_in history)) t.next c reached)

-- the law: a counter that can pass is above each that the history has used
pub candidates_are_new : CandidatesAreNew
candidates_are_new (Hotp t) history moment c (inl due) = window_is_above_used t history c due.not_before
candidates_are_new (Hotp t) history moment c (inr pair) = window_is_above_used t history c pair.0.not_before
candidates_are_new (Totp t) history moment c (inl due) = due.3
candidates_are_new (Totp t) history moment c (inr pair) = absurd pair

-- a counter that fits is not before HOTP's first
fitting_is_not_before_first : (t : HotpFields) (before : List Attempt) (m : ℕ) (sent : CodeTexts) (p : ℕ)
    → IsFitting (Hotp t) before m sent p
    → first_in_window t.next (used_in before) ≤ p
fitting_is_not_before_first t before m (one_text text) p fits = fits.0.not_before
fitting_is_not_before_first t before m (two_texts one other) p (first_counter, next, pair, first, second) =
    omega (arith, next, pair.0.not_before)

-- a due reply never moves HOTP's first counter back
reply_never_lowers_first : (t : HotpFields) (before : List Attempt) (m : ℕ) (sent : CodeTexts) (reply : Reply)
    → t.next ≤ first_in_window t.next (used_in before) → IsDueReply (Hotp t) before m sent reply
    → t.next ≤ first_in_window t.next (used_in_reply sent reply ++ used_in before)
reply_never_lowers_first t before m sent (Pass p) least due =
    let reached = fitting_is_not_before_first t before m sent p due.1 in
    let first : first_in_window t.next (counters_of sent p ++ used_in before) ≡ p + 1 = pass_moves_first t before m sent p due.1 in
    omega arith
reply_never_lowers_first t before m sent Fail least due = least
reply_never_lowers_first t before m sent Locked least due = least

-- a legal history never moves HOTP's first counter back
history_never_lowers_first : (t : HotpFields) (history : List Attempt) → IsLegal (Hotp t) history
    → t.next ≤ first_in_window t.next (used_in history)
history_never_lowers_first t [] legal = omega arith
history_never_lowers_first t (a ∷ before) legal =
    reply_never_lowers_first t before a.moment a.sent a.reply (history_never_lowers_first t before legal.2) legal.1

-- the law: a counter that a token has used can't pass after any legal history
pub used_stays_used : UsedStaysUsed
used_stays_used (Hotp t) history moment c legal (inl due) =
    let least = history_never_lowers_first t history legal in
    let reached : first_in_window t.next (used_in history) ≤ c = due.not_before in omega arith
used_stays_used (Hotp t) history moment c legal (inr pair) =
    let least = history_never_lowers_first t history legal in
    let reached : first_in_window t.next (used_in history) ≤ c = pair.0.not_before in omega arith
used_stays_used (Totp t) history moment c legal (inl due) = due.2
used_stays_used (Totp t) history moment c legal (inr pair) = absurd pair
