-- What can pass after a reply: the same after two alike pasts, and in the token that the reply makes.
use Rattle.std.proofs.Common.{◌≡◌, ◌≤◌, ◌<◌, ◌+◌, ◌-◌, ◌↔◌, ◌++◌, ℕ, pos, ◌-ℤ◌, List, [], ◌∷◌, Option, Some, None, max, refl, sym, subst, arith}
use Rattle.std.specs.Option.{option_map_or}
use Rattle.otp_core.specs.Ranges.{IsMoment, max_counter}
use Rattle.otp_core.specs.Attempt.{Attempt, CodeTexts, attempt_of, counters_of, used_in}
use Rattle.otp_core.specs.Attempt.CodeTexts.{one_text, two_texts}
use Rattle.otp_core.specs.Window.{IsCandidate, IsPairCandidate, IsInHotpWindow, IsInTotpWindow, IsAbove, first_in_window, greatest, step_at}
use Rattle.otp_core.specs.Reply.{IsDueReply, IsFitting}
use Rattle.otp_core.specs.History.{AreAlike, without_state}
use Rattle.otp_core.specs.State.{after_reply, after_pass}
use Rattle.otp_core.specs.declared.token.reply.Reply.{Reply}
use Rattle.otp_core.specs.declared.token.reply.Reply.TheVariants.{Pass, Fail, Locked}
use Rattle.otp_core.specs.declared.token.kinds.HotpFields.{HotpFields}
use Rattle.otp_core.specs.declared.token.kinds.TotpFields.{TotpFields}
use Rattle.otp_core.specs.declared.token.kinds.TokenFields.{TokenFields}
use Rattle.otp_core.specs.declared.token.kinds.TokenFields.TheVariants.{Hotp, Totp}
use Rattle.otp_core.proofs.lemmas.AlikePasts.{iff_is_symmetric, iff_is_transitive, alike_is_symmetric, alike_pasts_share_fitting}

-- after a reply a token has the settings that it had
pub reply_keeps_settings : (t : TokenFields) (moment : ℕ) (reply : Reply) → without_state t ≡ without_state (after_reply t moment reply)
reply_keeps_settings (Hotp t) moment (Pass p) = refl
reply_keeps_settings (Hotp t) moment Fail = refl
reply_keeps_settings (Hotp t) moment Locked = refl
reply_keeps_settings (Totp t) moment (Pass p) = refl
reply_keeps_settings (Totp t) moment Fail = refl
reply_keeps_settings (Totp t) moment Locked = refl

-- after a pass of one code, HOTP's first counter is one more than the counter that passed, which was not before the first
single_code_moves_first : (o : Option ℕ) (next p : ℕ) → option_map_or (λ most. most + 1) o next ≤ p
    → option_map_or (λ most. most + 1) (Some (option_map_or (λ most. max p most) o p)) next ≡ p + 1
single_code_moves_first None next p not_before = refl
single_code_moves_first (Some most) next p not_before = omega arith

-- after a pass of a pair, HOTP's first counter is one more than the second of the pair
pair_moves_first : (o : Option ℕ) (next c : ℕ) → option_map_or (λ most. most + 1) o next ≤ c
    → option_map_or (λ most. most + 1) (Some (max (c + 1) (option_map_or (λ most. max (c + 1 - 1) most) o (c + 1 - 1)))) next ≡ c + 1 + 1
pair_moves_first None next c not_before = omega arith
pair_moves_first (Some most) next c not_before = omega arith

-- after a pass, HOTP's first counter is one more than the counter that passed
pub pass_moves_first : (t : HotpFields) (history : List Attempt) (moment : ℕ) (sent : CodeTexts) (p : ℕ)
    → IsFitting (Hotp t) history moment sent p → first_in_window t.next (counters_of sent p ++ used_in history) ≡ p + 1
pass_moves_first t history moment (one_text text) p fits =
    single_code_moves_first (greatest (used_in history)) t.next p fits.0.not_before
pass_moves_first t history moment (two_texts one other) p (first_counter, next, pair, first, second) =
    subst (λ (n : ℕ). first_in_window t.next (counters_of (two_texts one other) n ++ used_in history) ≡ n + 1) (sym next)
    (pair_moves_first (greatest (used_in history)) t.next first_counter pair.0.not_before)

-- no pair of TOTP codes fits
no_totp_pair_fits : (t : TotpFields) (history : List Attempt) (moment : ℕ) (one other : List ℕ) (c : ℕ)
    → IsFitting (Totp t) history moment (two_texts one other) c → ⊥
no_totp_pair_fits t history moment one other c (first_counter, next, pair, first, second) = pair

-- a number above one that is above all of these counters is above all of them
greater_number_is_above : (counters : List ℕ) (p c : ℕ) → IsAbove counters p → p < c → IsAbove counters c
greater_number_is_above [] p c above greater = above
greater_number_is_above (x ∷ counters) p c above greater =
    let below : x < p = above.0 in (omega arith, greater_number_is_above counters p c above.1 greater)

-- a counter is in the window that the settings give at a later moment, after a pass of another counter at a moment
IsInWindowAfter : TokenFields → (moment passed later c : ℕ) → Type 0
IsInWindowAfter (Hotp t) moment passed later c = IsInHotpWindow (passed + 1) t.look_ahead c
IsInWindowAfter (Totp t) moment passed later c =
    (t.t0 ≤ later) × IsInTotpWindow (step_at t later) (pos passed -ℤ pos (step_at t moment)) t.back t.ahead t.max_drift c

-- a counter can be the first of a pair in the window that the settings give after a pass of another counter
IsPairCandidateAfter : TokenFields → (passed c : ℕ) → Type 0
IsPairCandidateAfter (Hotp t) passed c = IsInHotpWindow (passed + 1) t.sync_ahead c × (c + 1 ≤ max_counter)
IsPairCandidateAfter (Totp t) passed c = ⊥

-- after two pasts the same counters can pass, by themselves and as the first of a pair
abbrev CanPassAlike : (start : TokenFields) (history : List Attempt) (other : TokenFields) (since : List Attempt) → Type 0
CanPassAlike start history other since =
    ((moment c : ℕ) → IsMoment moment → IsCandidate start history moment c ↔ IsCandidate other since moment c)
    × ((c : ℕ) → IsPairCandidate start history c ↔ IsPairCandidate other since c)

-- what can pass after a pass of a fitting counter is what can pass in the token that the pass makes, whatever the past
token_agrees_after_pass : (s t : TokenFields) (history : List Attempt) (moment : ℕ) (sent : CodeTexts) (p : ℕ)
    → without_state s ≡ without_state t → IsFitting s history moment sent p
    → CanPassAlike s (attempt_of moment sent (Pass p) ∷ history) (after_pass t moment p) []
unfolding IsInWindowAfter IsPairCandidateAfter
token_agrees_after_pass (Hotp s) (Hotp t) history moment sent p same fits =
    let first : first_in_window s.next (counters_of sent p ++ used_in history) ≡ p + 1 = pass_moves_first s history moment sent p fits in (
      (λ later c when. (
        (λ is. subst (λ f. IsInWindowAfter f moment p later c) same (subst (λ n. IsInHotpWindow n s.look_ahead c) first is)),
        (λ is. subst (λ n. IsInHotpWindow n s.look_ahead c) (sym first) (subst (λ f. IsInWindowAfter f moment p later c) (sym same) is)),
      )),
      (λ c. (
        (λ can. subst (λ f. IsPairCandidateAfter f p c) same
            (subst (λ n. IsInHotpWindow n s.sync_ahead c × (c + 1 ≤ max_counter)) first can)),
        (λ can. subst (λ n. IsInHotpWindow n s.sync_ahead c × (c + 1 ≤ max_counter)) (sym first)
            (subst (λ f. IsPairCandidateAfter f p c) (sym same) can)),
      )),
    )
token_agrees_after_pass (Totp s) (Totp t) history moment (one_text text) p same fits = (
  (λ later c when. (
    (λ is. let near = subst (λ f. IsInWindowAfter f moment p later c) same (is.0, is.1) in
        let above : p < c = is.3.0 in
        (near.0, near.1, (λ last passed. let equal : p ≡ last = cc in omega arith), tt)),
    (λ is. let near = subst (λ f. IsInWindowAfter f moment p later c) (sym same) (is.0, is.1) in
        let above : p < c = is.2 p refl in (
          near.0,
          near.1,
          (λ last passed. let below : last < p = fits.0.2 last passed in omega arith),
          (above, greater_number_is_above (used_in history) p c fits.0.3 above),
        )),
  )),
  (λ c. ((λ can. can), (λ can. can))),
)
token_agrees_after_pass (Totp s) (Totp t) history moment (two_texts one other) p same fits =
    absurd (no_totp_pair_fits s history moment one other p fits)
token_agrees_after_pass (Hotp s) (Totp t) history moment sent p same fits = absurd (cc)
token_agrees_after_pass (Totp s) (Hotp t) history moment sent p same fits = absurd (cc)

-- `CanPassAlike` is true of a past and itself
can_pass_alike_is_reflexive : (s : TokenFields) (history : List Attempt) → CanPassAlike s history s history
can_pass_alike_is_reflexive s history = ((λ moment c is. ((λ can. can), (λ can. can))), (λ c. ((λ can. can), (λ can. can))))

-- a reply that passes no counter
abbrev pub IsNoPass : Reply → Type 0
IsNoPass (Pass p) = ⊥
IsNoPass Fail = Unit {0}
IsNoPass Locked = Unit {0}

-- a reply that passes no counter leaves what can pass as it was, after the history and in the token that it makes
no_pass_keeps_candidates : (s : TokenFields) (history : List Attempt) (moment : ℕ) (sent : CodeTexts) (reply : Reply) → IsNoPass reply
    → CanPassAlike s (attempt_of moment sent reply ∷ history) s history
    × CanPassAlike s (attempt_of moment sent reply ∷ history) (after_reply s moment reply) history
no_pass_keeps_candidates s history moment sent (Pass p) idle = absurd idle
no_pass_keeps_candidates (Hotp s) history moment sent Fail idle =
    (can_pass_alike_is_reflexive (Hotp s) history, can_pass_alike_is_reflexive (Hotp s) history)
no_pass_keeps_candidates (Totp s) history moment sent Fail idle =
    (can_pass_alike_is_reflexive (Totp s) history, can_pass_alike_is_reflexive (Totp s) history)
no_pass_keeps_candidates (Hotp s) history moment sent Locked idle =
    (can_pass_alike_is_reflexive (Hotp s) history, can_pass_alike_is_reflexive (Hotp s) history)
no_pass_keeps_candidates (Totp s) history moment sent Locked idle =
    (can_pass_alike_is_reflexive (Totp s) history, can_pass_alike_is_reflexive (Totp s) history)

-- an attempt that passes no counter keeps what can pass the same after two alike pasts
no_pass_keeps_candidates_alike : (s t : TokenFields) (history since : List Attempt) (moment : ℕ) (sent : CodeTexts) (reply : Reply)
    → IsNoPass reply → AreAlike s history t since
    → CanPassAlike s (attempt_of moment sent reply ∷ history) t (attempt_of moment sent reply ∷ since)
no_pass_keeps_candidates_alike s t history since moment sent reply idle alike =
    let one = (no_pass_keeps_candidates s history moment sent reply idle).0 in
    let other = (no_pass_keeps_candidates t since moment sent reply idle).0 in (
      (λ later c when. iff_is_transitive (one.0 later c when) (iff_is_transitive (alike.candidates later c when)
          (iff_is_symmetric (other.0 later c when)))),
      (λ c. iff_is_transitive (one.1 c) (iff_is_transitive (alike.pairs c) (iff_is_symmetric (other.1 c)))),
    )

-- what can pass after a due reply is the same in two alike pasts
pub reply_keeps_candidates_alike : (s t : TokenFields) (history since : List Attempt) (moment : ℕ) (sent : CodeTexts) (reply : Reply)
    → AreAlike s history t since → IsMoment moment → IsDueReply t since moment sent reply
    → CanPassAlike s (attempt_of moment sent reply ∷ history) t (attempt_of moment sent reply ∷ since)
reply_keeps_candidates_alike s t history since moment sent (Pass p) alike is due =
    let fits = alike_pasts_share_fitting t s since history moment sent p (alike_is_symmetric s t history since alike) is due.1 in
    let one = token_agrees_after_pass s t history moment sent p alike.settings fits in
    let other = token_agrees_after_pass t t since moment sent p refl due.1 in (
      (λ later c when. iff_is_transitive (one.0 later c when) (iff_is_symmetric (other.0 later c when))),
      (λ c. iff_is_transitive (one.1 c) (iff_is_symmetric (other.1 c))),
    )
reply_keeps_candidates_alike s t history since moment sent Fail alike is due =
    no_pass_keeps_candidates_alike s t history since moment sent Fail tt alike
reply_keeps_candidates_alike s t history since moment sent Locked alike is due =
    no_pass_keeps_candidates_alike s t history since moment sent Locked tt alike

-- what can pass in a token after a due reply is what can pass after that attempt
pub token_agrees_after_reply : (t : TokenFields) (moment : ℕ) (sent : CodeTexts) (reply : Reply) → IsDueReply t [] moment sent reply
    → CanPassAlike t (attempt_of moment sent reply ∷ []) (after_reply t moment reply) []
token_agrees_after_reply t moment sent (Pass p) due = token_agrees_after_pass t t [] moment sent p refl due.1
token_agrees_after_reply t moment sent Fail due = (no_pass_keeps_candidates t [] moment sent Fail tt).1
token_agrees_after_reply t moment sent Locked due = (no_pass_keeps_candidates t [] moment sent Locked tt).1
