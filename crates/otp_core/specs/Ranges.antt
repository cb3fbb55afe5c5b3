-- The bounds of secrets, of numbers of digits, of moments, and of the settings and the state of tokens.
use Rattle.std.specs.Prelude.{ℕ, ◌+◌, ◌-◌, ◌^◌, ◌≤◌}
use Rattle.otp_core.specs.declared.fault.Setting.{Setting}
use Rattle.otp_core.specs.declared.fault.Setting.TheVariants.{Next, LookAhead, SyncAhead, Step, Back, Ahead, MaxDrift, Last, Drift, Limit, Failures}

-- the least number of bytes of a secret
abbrev pub min_secret_len : ℕ
min_secret_len = 10

-- the greatest number of bytes of a secret
abbrev pub max_secret_len : ℕ
max_secret_len = 64

-- a secret has 10 to 64 bytes; RFC 4226, section 4, requires at least 16
abbrev pub IsSecretLength : ℕ → Type 0
IsSecretLength length = (min_secret_len ≤ length) × (length ≤ max_secret_len)

-- the least number of digits of a code (RFC 4226, section 5.3)
abbrev pub min_digits : ℕ
min_digits = 6

-- the greatest number of digits of a code
abbrev pub max_digits : ℕ
max_digits = 8

-- a code has 6 to 8 digits
abbrev pub IsDigitCount : ℕ → Type 0
IsDigitCount count = (min_digits ≤ count) × (count ≤ max_digits)

-- the last second of the year 9999
abbrev pub max_moment : ℕ
max_moment = 253402300799

-- a moment is at most the last second of the year 9999
abbrev pub IsMoment : ℕ → Type 0
IsMoment seconds = seconds ≤ max_moment

-- the greatest counter that can pass: the next one, 2 ^ 63 - 1, is still an integer that a book's TOML can hold
abbrev pub max_counter : ℕ
max_counter = 2 ^ 63 - 2

-- a counter that can pass is at most that one
abbrev pub IsCounter : ℕ → Type 0
IsCounter counter = counter ≤ max_counter

-- the greatest look_ahead: how many counters after the first HOTP tries for one code
abbrev pub max_look_ahead : ℕ
max_look_ahead = 100

-- the greatest sync_ahead: how many counters after the first HOTP tries for two codes in a row
abbrev pub max_sync_ahead : ℕ
max_sync_ahead = 1000

-- the longest step of TOTP, in seconds
abbrev pub max_step : ℕ
max_step = 3600

-- the greatest `back` and the greatest `ahead` of TOTP, in steps
abbrev pub max_window_steps : ℕ
max_window_steps = 10

-- the greatest max_drift of TOTP, in steps
abbrev pub max_drift_bound : ℕ
max_drift_bound = 100

-- the greatest limit, the number of failures that locks a token
abbrev pub max_limit : ℕ
max_limit = 100

-- the least and the greatest number that a setting may be; of `drift`, its distance from 0. Those of `drift` and `failures`
-- follow from those of `max_drift` and `limit`, and are demanded nowhere by themselves: a token's `drift` is at most its `max_drift`, above
-- or below 0, and its `failures` are at most its `limit`.
abbrev pub bounds_of : Setting → ℕ × ℕ
bounds_of Next = (0, max_counter + 1)
bounds_of LookAhead = (0, max_look_ahead)
bounds_of SyncAhead = (0, max_sync_ahead)
bounds_of Step = (1, max_step)
bounds_of Back = (0, max_window_steps)
bounds_of Ahead = (0, max_window_steps)
bounds_of MaxDrift = (0, max_drift_bound)
bounds_of Last = (0, max_counter)
bounds_of Drift = (0, max_drift_bound)
bounds_of Limit = (1, max_limit)
bounds_of Failures = (0, max_limit)

-- a number is within the bounds of a setting
abbrev pub IsInBounds : Setting → ℕ → Type 0
IsInBounds setting n = ((bounds_of setting).0 ≤ n) × (n ≤ (bounds_of setting).1)

-- a step of TOTP is 1 to 3600 seconds long
abbrev pub IsStepLength : ℕ → Type 0
IsStepLength = IsInBounds Step
