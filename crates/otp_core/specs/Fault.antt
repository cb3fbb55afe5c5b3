-- The numbers of the refusals, and the names of the settings.
use Rattle.std.specs.Prelude.{ℕ, List, codes}
use Rattle.otp_core.specs.declared.fault.OtpFault.{OtpFault}
use Rattle.otp_core.specs.declared.fault.OtpFault.TheVariants.{SecretLength, DigitCount, Setting}
use Rattle.otp_core.specs.declared.fault.Setting.TheVariants.{Next, LookAhead, SyncAhead, Step, Back, Ahead, MaxDrift, Last, Drift, Limit, Failures}
use Rattle.otp_core.specs.declared.fault.Setting as setting

-- the number of a refusal
abbrev pub otp_fault_number : OtpFault → ℕ
otp_fault_number SecretLength = 40
otp_fault_number DigitCount = 41
otp_fault_number (Setting setting) = 42

-- the name of a setting, which is that of its field
abbrev pub setting_name : setting.Setting → List ℕ
setting_name Next = codes "next"
setting_name LookAhead = codes "look_ahead"
setting_name SyncAhead = codes "sync_ahead"
setting_name Step = codes "step"
setting_name Back = codes "back"
setting_name Ahead = codes "ahead"
setting_name MaxDrift = codes "max_drift"
setting_name Last = codes "last"
setting_name Drift = codes "drift"
setting_name Limit = codes "limit"
setting_name Failures = codes "failures"
