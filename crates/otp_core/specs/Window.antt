-- The counters that can pass, given the start of a token and the history since.
use Rattle.std.specs.Prelude.{ℕ, ◌+◌, ◌≤◌, ◌<◌, max, ℤ, pos, ◌+ℤ◌, ◌-ℤ◌, ◌≤ℤ◌, ◌⊎◌, List, [], ◌∷◌, get_or, Option, Some, None}
use Rattle.std.specs.List.{AllByRecursion, filter_map}
use Rattle.std.specs.Option.{ForSome, option_map, option_map_or}
use Rattle.otp_core.specs.Ranges.{max_counter}
use Rattle.otp_core.specs.Code.{steps_from}
use Rattle.otp_core.specs.Attempt.{Attempt, passed_counter, used_in}
use Rattle.otp_core.specs.declared.token.kinds.TotpFields.{TotpFields}
use Rattle.otp_core.specs.declared.token.kinds.TokenFields.{TokenFields}
use Rattle.otp_core.specs.declared.token.kinds.TokenFields.TheVariants.{Hotp, Totp}

-- the greatest of these counters, if there are any
abbrev pub greatest : List ℕ → Option ℕ
greatest [] = None
greatest (c ∷ counters) = Some (option_map_or (λ most. max c most) (greatest counters) c)

-- the first counter of HOTP's window: one more than the greatest that was used, or the start's next if none was
abbrev pub first_in_window : (next : ℕ) → (counters : List ℕ) → ℕ
first_in_window next counters = option_map_or (λ most. most + 1) (greatest counters) next

-- a counter of HOTP's window (RFC 4226, section 7.4): the first counter or one of the `ahead` counters after it, and at most the
-- greatest that can pass
pub record IsInHotpWindow (first ahead c : ℕ) : Type 0 where
  pub not_before : first ≤ c
  pub within : c ≤ first + ahead
  pub most : c ≤ max_counter

-- T, TOTP's present step (RFC 6238, section 4.2)
abbrev pub step_at : TotpFields → (moment : ℕ) → ℕ
step_at t moment = steps_from t.t0 t.step moment

-- the drift (RFC 6238, section 6): w - T of the last Pass, where w is its counter and T the step of its moment, or else the start's
abbrev pub drift_after : (start : TotpFields) → (history : List Attempt) → ℤ
drift_after t history =
    let drifts = filter_map (λ a. option_map (λ w. pos w -ℤ pos (step_at t a.moment)) (passed_counter a.reply)) history in
    get_or drifts 0 t.drift

-- a step of TOTP's window (RFC 6238, sections 5.2 and 6): at most `back` steps before and `ahead` steps after the present step plus
-- the drift, and at most max_drift steps from the present step itself
pub record IsInTotpWindow (now : ℕ) (drift : ℤ) (back ahead max_drift w : ℕ) : Type 0 where
  pub not_before : ((pos now +ℤ drift) -ℤ pos back) ≤ℤ pos w
  pub not_after : pos w ≤ℤ ((pos now +ℤ drift) +ℤ pos ahead)
  pub not_early : now ≤ w + max_drift
  pub not_late : w ≤ now + max_drift

-- the counter is above each of these
abbrev pub IsAbove : List ℕ → ℕ → Type 0
IsAbove counters c = AllByRecursion (λ used. used < c) counters

-- two codes in a row can pass, and this is the counter of the first. With HOTP it is the first counter of the window or one of the
-- sync_ahead counters after it (RFC 4226, section 7.4), and the second is at most the greatest that can pass. With TOTP two codes in a
-- row never pass.
abbrev pub IsPairCandidate : (start : TokenFields) → (history : List Attempt) → (c : ℕ) → Type 0
IsPairCandidate (Hotp t) history c = IsInHotpWindow (first_in_window t.next (used_in history)) t.sync_ahead c × (c + 1 ≤ max_counter)
IsPairCandidate (Totp t) history c = ⊥

-- the counter can pass at a moment, after a history from a start. A step of TOTP passes at most once, and no earlier step passes
-- after it (RFC 6238, section 5.2).
abbrev pub IsCandidate : (start : TokenFields) → (history : List Attempt) → (moment c : ℕ) → Type 0
IsCandidate (Hotp t) history moment c = IsInHotpWindow (first_in_window t.next (used_in history)) t.look_ahead c
IsCandidate (Totp t) history moment w =
    (t.t0 ≤ moment)
    × IsInTotpWindow (step_at t moment) (drift_after t history) t.back t.ahead t.max_drift w
    × ForSome t.last (λ l. l < w)
    × IsAbove (used_in history) w

-- the counter can pass at a moment, after a history from a start: by itself, or as the first of a pair
abbrev pub CanPass : (start : TokenFields) → (history : List Attempt) → (moment c : ℕ) → Type 0
CanPass start history moment c = IsCandidate start history moment c ⊎ IsPairCandidate start history c
