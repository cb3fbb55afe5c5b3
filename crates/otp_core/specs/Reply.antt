-- The reply due to an attempt (RFC 4226, sections 7.2 to 7.4; RFC 6238, sections 5.2 and 6), given the start of a token and the history
-- since.
use Rattle.std.specs.Prelude.{ℕ, ◌+◌, ◌≤◌, ◌<◌, ◌≡◌, Bool, true, false, if◌then◌else◌, List, count_by, is_some}
use Rattle.std.specs.List.{before_first, list_any}
use Rattle.otp_core.specs.Hash.{hotp_text_by}
use Rattle.otp_core.specs.Attempt.{Attempt, CodeTexts, passed_counter}
use Rattle.otp_core.specs.Window.{IsCandidate, IsPairCandidate}
use Rattle.otp_core.specs.declared.hash.OtpHash.TheVariants.{Sha1}
use Rattle.otp_core.specs.declared.token.reply.Reply.{Reply}
use Rattle.otp_core.specs.declared.token.reply.Reply.TheVariants.{Pass, Fail, Locked}
use Rattle.otp_core.specs.declared.token.kinds.TokenFields.{TokenFields}
use Rattle.otp_core.specs.declared.token.kinds.TokenFields.TheVariants.{Hotp, Totp}

-- the text of a token's code at a counter
abbrev pub code_text : TokenFields → (c : ℕ) → List ℕ
code_text (Hotp t) c = hotp_text_by Sha1 t.digits t.secret c
code_text (Totp t) c = hotp_text_by t.hash t.digits t.secret c

-- the number of failures that locks the token (T of RFC 4226, section 7.3)
abbrev pub limit_of : TokenFields → ℕ
limit_of (Hotp t) = t.limit
limit_of (Totp t) = t.limit

-- the failures that a token starts with
abbrev pub failures_of : TokenFields → ℕ
failures_of (Hotp t) = t.failures
failures_of (Totp t) = t.failures

-- whether the reply is a Fail
abbrev pub is_fail : Reply → Bool
is_fail Fail = true
is_fail _ = false

-- the failures: the number of Fails after the last Pass (a history has the latest first), plus the start's if there is no Pass
abbrev pub failures_after : (start : TokenFields) → (history : List Attempt) → ℕ
failures_after start history =
    let passed = λ (a : Attempt). is_some (passed_counter a.reply) in
    count_by (λ a. is_fail a.reply) (before_first passed history) + (if list_any passed history then 0 else failures_of start)

-- what was sent fits this counter: one text that is its code, if the counter can pass; or two texts that are the codes of the
-- counter before it and of this one, if the two can pass as a pair
abbrev pub IsFitting : (start : TokenFields) → (history : List Attempt) → (moment : ℕ) → CodeTexts → (c : ℕ) → Type 0
IsFitting start history moment (CodeTexts.one_text text) c = IsCandidate start history moment c × (code_text start c ≡ text)
IsFitting start history moment (CodeTexts.two_texts first second) c =
    (first_counter : ℕ) × (c ≡ first_counter + 1) × IsPairCandidate start history first_counter
    × (code_text start first_counter ≡ first) × (code_text start (first_counter + 1) ≡ second)

-- the reply that is due: Locked if the failures have reached the limit; else Pass of the least counter that fits, if there is one;
-- else Fail, also before t0 and to two codes in a row of TOTP, where none fits
abbrev pub IsDueReply : (start : TokenFields) → (history : List Attempt) → (moment : ℕ) → CodeTexts → Reply → Type 0
IsDueReply start history moment sent Locked = limit_of start ≤ failures_after start history
IsDueReply start history moment sent (Pass c) =
    (failures_after start history < limit_of start)
    × IsFitting start history moment sent c
    × ((k : ℕ) → IsFitting start history moment sent k → c ≤ k)
IsDueReply start history moment sent Fail =
    (failures_after start history < limit_of start)
    × ((k : ℕ) → IsFitting start history moment sent k → ⊥)
