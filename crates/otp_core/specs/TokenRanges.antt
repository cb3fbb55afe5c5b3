-- The ranges of the fields of tokens, and which field is the first outside its range.
use Rattle.std.specs.Prelude.{ℕ, ◌≤◌, ◌≡◌, ◌⊎◌, List, [], ◌∷◌, nat_abs}
use Rattle.std.specs.Option.{ForSome}
use Rattle.otp_core.specs.Ranges.{IsInBounds}
use Rattle.otp_core.specs.declared.fault.OtpFault.{OtpFault}
use Rattle.otp_core.specs.declared.fault.OtpFault.TheVariants as fault
use Rattle.otp_core.specs.declared.fault.Setting.{Setting}
use Rattle.otp_core.specs.declared.fault.Setting.TheVariants.{Next, LookAhead, SyncAhead, Step, Back, Ahead, MaxDrift, Last, Drift, Limit, Failures}
use Rattle.otp_core.specs.declared.token.kinds.HotpFields.{HotpFields}
use Rattle.otp_core.specs.declared.token.kinds.TotpFields.{TotpFields}
use Rattle.otp_core.specs.declared.token.kinds.TokenFields.{TokenFields}
use Rattle.otp_core.specs.declared.token.kinds.TokenFields.TheVariants.{Hotp, Totp}

-- a setting, and the condition that it is in its range
pub record Ranged : Type 1 where
  pub setting : Setting
  pub IsIn : Type 0

-- each field is in its range
abbrev pub AreInRange : List Ranged → Type 0
AreInRange [] = Unit {0}
AreInRange (r ∷ rest) = r.IsIn × AreInRange rest

-- this field is the first that is not in its range
abbrev pub IsFirstOutside : List Ranged → Setting → Type 0
IsFirstOutside [] found = ⊥
IsFirstOutside (r ∷ rest) found = ((r.IsIn → ⊥) × (found ≡ r.setting)) ⊎ (r.IsIn × IsFirstOutside rest found)

-- a setting with its condition
abbrev pub range : Setting → Type 0 → Ranged
range setting IsIn = record { setting = setting; IsIn = IsIn }

-- a setting that is this number, with the condition that the number is within the bounds of the setting
abbrev pub bounded : Setting → ℕ → Ranged
bounded setting n = range setting (IsInBounds setting n)

-- the settings of a HOTP token that have a range, in the order in which they are checked
abbrev pub hotp_ranges : HotpFields → List Ranged
hotp_ranges t =
    bounded Next t.next
    ∷ bounded LookAhead t.look_ahead
    ∷ bounded SyncAhead t.sync_ahead
    ∷ bounded Limit t.limit
    ∷ range Failures (t.failures ≤ t.limit)
    ∷ []

-- the settings of a TOTP token that have a range, in the order in which they are checked
abbrev pub totp_ranges : TotpFields → List Ranged
totp_ranges t =
    bounded Step t.step
    ∷ bounded Back t.back
    ∷ bounded Ahead t.ahead
    ∷ bounded MaxDrift t.max_drift
    ∷ range Last (ForSome t.last (IsInBounds Last))
    ∷ range Drift (nat_abs t.drift ≤ t.max_drift)
    ∷ bounded Limit t.limit
    ∷ range Failures (t.failures ≤ t.limit)
    ∷ []

-- each field of a HOTP token is in its range
abbrev pub IsHotpInRange : HotpFields → Type 0
IsHotpInRange t = AreInRange (hotp_ranges t)

-- each field of a TOTP token is in its range
abbrev pub IsTotpInRange : TotpFields → Type 0
IsTotpInRange t = AreInRange (totp_ranges t)

-- each field of a token is in its range
abbrev pub IsInRange : TokenFields → Type 0
IsInRange (Hotp t) = IsHotpInRange t
IsInRange (Totp t) = IsTotpInRange t

-- the refusal names the first field that is not in its range
abbrev pub IsRefusalOf : List Ranged → OtpFault → Type 0
IsRefusalOf ranges refusal = (setting : Setting) × (refusal ≡ fault.Setting setting) × IsFirstOutside ranges setting
