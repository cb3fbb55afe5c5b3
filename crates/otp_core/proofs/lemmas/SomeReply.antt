-- Some reply is due to every attempt: it is decidable whether a counter fits, and those that fit are below a bound, so there is a
-- least one or none.
use Rattle.std.proofs.Common.{◌≡◌, ◌+◌, ◌<◌, ◌≤◌, ◌^◌, ℕ, zero, suc, List, [], ◌∷◌, Option, None, Some, ℤ, arith, inl, inr, refl, subst}
use Rattle.std.proofs.lemmas.Bool.{cases_Bool, cases_lt}
use Rattle.std.specs.Prelude.{◌≤ℤ◌, ◌+ℤ◌, ◌-ℤ◌, pos}
use Rattle.std.specs.Option.{ForSome}
use Rattle.mac_core.proofs.lemmas.Decided.{Decided, decided_equivalent, decided_both, decided_le, decided_lt, decided_same_text}
use Rattle.otp_core.specs.Ranges.{max_counter}
use Rattle.otp_core.specs.Attempt.{Attempt, CodeTexts, used_in}
use Rattle.otp_core.specs.Window.{IsAbove, IsCandidate, IsPairCandidate, IsInHotpWindow, IsInTotpWindow, first_in_window, drift_after, step_at}
use Rattle.otp_core.specs.Reply.{IsDueReply, IsFitting, code_text, failures_after, limit_of}
use Rattle.otp_core.specs.Laws.{SomeReplyIsDue}
use Rattle.otp_core.specs.declared.token.reply.Reply.{Reply}
use Rattle.otp_core.specs.declared.token.reply.Reply.TheVariants.{Pass, Fail, Locked}
use Rattle.otp_core.specs.declared.token.kinds.TokenFields.{TokenFields}
use Rattle.otp_core.specs.declared.token.kinds.TokenFields.TheVariants.{Hotp, Totp}
use Rattle.otp_core.proofs.lemmas.LeastNumbers.{least_or_none}
use lib.Signed.{le_z}

-- it is decidable whether an integer is at most another
decided_leℤ : (a b : ℤ) → Decided (a ≤ℤ b)
decided_leℤ a b = elim (cases_Bool (le_z a b)) [
  | inl is ↦ inl (record { le = rw is tt })
  | inr other ↦ inr (λ h. rw other at h.le)
]

-- it is decidable whether a number is above each counter of a list
decided_above : (counters : List ℕ) (w : ℕ) → Decided (IsAbove counters w)
decided_above [] w = inl tt
decided_above (p ∷ counters) w = decided_both (p < w) (IsAbove counters w) (decided_lt p w) (decided_above counters w)

-- it is decidable whether a number is above an optional one, if there is one
decided_above_last : (last : Option ℕ) (w : ℕ) → Decided (ForSome last (λ l. l < w))
decided_above_last None w = inl (λ x e. absurd (cc))
decided_above_last (Some last) w =
    decided_equivalent (last < w) (ForSome (Some last) (λ l. l < w))
    (λ h x e. let same : last ≡ x = cc in omega (arith, h, same))
    (λ f. f last refl)
    (decided_lt last w)

-- it is decidable whether a counter is in HOTP's window
decided_hotp_window : (first look_ahead c : ℕ) → Decided (IsInHotpWindow first look_ahead c)
decided_hotp_window first look_ahead c =
    decided_equivalent ((first ≤ c) × ((c ≤ first + look_ahead) × (c ≤ max_counter))) (IsInHotpWindow first look_ahead c)
    (λ h. record { not_before = h.0; within = h.1.0; most = h.1.1 })
    (λ d. (d.not_before, (d.within, d.most)))
    (decided_both _ _ (decided_le first c) (decided_both _ _ (decided_le c (first + look_ahead)) (decided_le c max_counter)))

-- it is decidable whether a step is in TOTP's window
decided_totp_window : (now : ℕ) (drift : ℤ) (back ahead max_drift w : ℕ) → Decided (IsInTotpWindow now drift back ahead max_drift w)
decided_totp_window now drift back ahead max_drift w =
    decided_equivalent
    (((((pos now +ℤ drift) -ℤ pos back) ≤ℤ pos w) × (pos w ≤ℤ ((pos now +ℤ drift) +ℤ pos ahead)))
    × ((now ≤ w + max_drift) × (w ≤ now + max_drift)))
    (IsInTotpWindow now drift back ahead max_drift w)
    (λ h. record { not_before = h.0.0; not_after = h.0.1; not_early = h.1.0; not_late = h.1.1 })
    (λ d. ((d.not_before, d.not_after), (d.not_early, d.not_late)))
    (decided_both _ _
    (decided_both _ _ (decided_leℤ ((pos now +ℤ drift) -ℤ pos back) (pos w)) (decided_leℤ (pos w) ((pos now +ℤ drift) +ℤ pos ahead)))
    (decided_both _ _ (decided_le now (w + max_drift)) (decided_le w (now + max_drift))))

-- it is decidable whether a counter can pass
decided_candidate : (s : TokenFields) (h : List Attempt) (m c : ℕ) → Decided (IsCandidate s h m c)
decided_candidate (Hotp t) h m c = decided_hotp_window (first_in_window t.next (used_in h)) t.look_ahead c
decided_candidate (Totp t) h m w =
    let near : Type 0 = IsInTotpWindow (step_at t m) (drift_after t h) t.back t.ahead t.max_drift w in
    decided_equivalent ((t.t0 ≤ m) × (near × (ForSome t.last (λ l. l < w) × IsAbove (used_in h) w))) (IsCandidate (Totp t) h m w)
    (λ d. (d.0, d.1.0, d.1.1.0, d.1.1.1))
    (λ d. (d.0, (d.1, (d.2, d.3))))
    (decided_both _ _ (decided_le t.t0 m)
    (decided_both _ _ (decided_totp_window (step_at t m) (drift_after t h) t.back t.ahead t.max_drift w)
    (decided_both _ _ (decided_above_last t.last w) (decided_above (used_in h) w))))

-- it is decidable whether a counter can be the first of a pair
decided_pair_candidate : (s : TokenFields) (h : List Attempt) (c : ℕ) → Decided (IsPairCandidate s h c)
decided_pair_candidate (Hotp t) h c = decided_both _ _ (decided_hotp_window (first_in_window t.next (used_in h)) t.sync_ahead c)
    (decided_le (c + 1) max_counter)
decided_pair_candidate (Totp t) h c = inr (λ pair. pair)

-- it is decidable whether a counter fits what was sent
decided_fitting : (s : TokenFields) (h : List Attempt) (m : ℕ) (sent : CodeTexts) (c : ℕ) → Decided (IsFitting s h m sent c)
decided_fitting s h m (CodeTexts.one_text text) c =
    decided_both _ _ (decided_candidate s h m c) (decided_same_text (code_text s c) text)
decided_fitting s h m (CodeTexts.two_texts first second) zero = inr (λ fits. let wrong : zero ≡ fits.0 + 1 = fits.1 in omega arith)
decided_fitting s h m (CodeTexts.two_texts first second) (suc w) =
    decided_equivalent (IsPairCandidate s h w × ((code_text s w ≡ first) × (code_text s (w + 1) ≡ second)))
    (IsFitting s h m (CodeTexts.two_texts first second) (suc w))
    (λ is. (w, omega arith, is.0, is.1.0, is.1.1))
    (λ fits. by_first fits.0 (omega (arith, fits.1)) (fits.2, (fits.3, fits.4)))
    (decided_both _ _ (decided_pair_candidate s h w)
    (decided_both _ _ (decided_same_text (code_text s w) first) (decided_same_text (code_text s (w + 1)) second)))
  where
    by_first : (v : ℕ) → v ≡ w → IsPairCandidate s h v × ((code_text s v ≡ first) × (code_text s (v + 1) ≡ second))
        → IsPairCandidate s h w × ((code_text s w ≡ first) × (code_text s (w + 1) ≡ second))
    by_first v same is = subst (λ (n : ℕ). IsPairCandidate s h n × ((code_text s n ≡ first) × (code_text s (n + 1) ≡ second))) same is

-- some reply is due, if the counters that fit are below a bound
some_reply_under_bound : (s : TokenFields) (h : List Attempt) (m : ℕ) (sent : CodeTexts) (n : ℕ)
    → ((k : ℕ) → IsFitting s h m sent k → k < n) → (reply : Reply) × IsDueReply s h m sent reply
some_reply_under_bound s h m sent n bound = elim (cases_lt (failures_after s h) (limit_of s)) [
  | inl below ↦ elim (least_or_none (λ k. IsFitting s h m sent k) (decided_fitting s h m sent) n) [
    | inl found ↦ (Pass found.0, (below, found.1, found.2))
    | inr none ↦ (Fail, (below, λ k fits. none k (bound k fits) fits))
  ]
  | inr reached ↦ (Locked, reached)
]

-- the law: some reply is due to each attempt
pub some_reply_is_due : SomeReplyIsDue
some_reply_is_due (Hotp t) h m (CodeTexts.one_text text) =
    some_reply_under_bound (Hotp t) h m (CodeTexts.one_text text) (2 ^ 63) (λ k fits. omega (arith, fits.0.most))
some_reply_is_due (Hotp t) h m (CodeTexts.two_texts first second) =
    some_reply_under_bound (Hotp t) h m (CodeTexts.two_texts first second) (2 ^ 63) (λ k fits. omega (arith, fits.1, fits.2.1))
some_reply_is_due (Totp t) h m (CodeTexts.two_texts first second) =
    some_reply_under_bound (Totp t) h m (CodeTexts.two_texts first second) 0 (λ k fits. absurd fits.2)
some_reply_is_due (Totp t) h m (CodeTexts.one_text text) =
    some_reply_under_bound (Totp t) h m (CodeTexts.one_text text) (step_at t m + t.max_drift + 1)
    (λ w fits. omega (arith, fits.0.1.not_late))
