-- Tokens as C keeps them: a secret, and a struct with the settings and the state.
use Rattle.std.specs.Prelude.{ℕ, ◌^◌, ◌-◌, ◌==◌, ◌≡◌, if◌then◌else◌, List, [], ◌∷◌, length}
use Rattle.std.specs.declared.option.Option.{Option}
use Rattle.std.specs.declared.option.Option.TheVariants.{None, Some}
use Rattle.otp_core.specs.Attempt.{CodeTexts}
use Rattle.otp_core.specs.Ranges.{IsDigitCount, IsMoment, IsSecretLength}
use Rattle.otp_core.specs.TokenAttempt.{IsTokenAttempt}
use Rattle.otp_core.specs.TokenRanges.{IsHotpInRange, IsTotpInRange}
use Rattle.otp_core.specs.declared.hash.OtpHash.{OtpHash}
use Rattle.otp_core.specs.declared.hash.OtpHash.TheVariants.{Sha1, Sha256, Sha512}
use Rattle.otp_core.specs.declared.token.kinds.HotpFields.{HotpFields}
use Rattle.otp_core.specs.declared.token.kinds.TotpFields.{TotpFields}
use Rattle.otp_core.specs.declared.token.kinds.TokenFields.{TokenFields}
use Rattle.otp_core.specs.declared.token.reply.Reply.{Reply}
use Rattle.otp_core.specs.declared.token.reply.Reply.TheVariants.{Pass, Fail, Locked}
use Rattle.c_library.specs.Demands.{Demand, demand}
use Rattle.c_library.specs.declared.hotp.HotpToken.{HotpToken}
use Rattle.c_library.specs.declared.totp.TotpToken.{TotpToken}

-- the number of a reply: 0 is a pass
abbrev pub reply_number : Reply → ℕ
reply_number (Pass counter) = 0
reply_number Fail = 43
reply_number Locked = 44

-- the reply to a code is told, and the token is as it leaves it
pub record IsReplied (old : TokenFields) (moment : ℕ) (sent : CodeTexts) (number : ℕ) (new : TokenFields) : Type 0 where
  pub reply : Reply
  pub is_number : number ≡ reply_number reply
  pub is_attempt : IsTokenAttempt old moment sent reply new

-- the HOTP token with this secret and these numbers
abbrev pub hotp_fields : (secret : List ℕ) → HotpToken → HotpFields
hotp_fields secret t = record {
  secret = secret;
  digits = t.digits;
  next = t.next;
  look_ahead = t.look_ahead;
  sync_ahead = t.sync_ahead;
  limit = t.limit;
  failures = t.failures;
}

-- what is demanded of a HOTP token
abbrev pub hotp_demands : (secret : List ℕ) → HotpToken → List Demand
hotp_demands secret t =
    demand 40 (IsSecretLength (length secret)) ∷ demand 41 (IsDigitCount t.digits) ∷ demand 42 (IsHotpInRange (hotp_fields secret t)) ∷ []

-- the number of a hash function, as in its name
abbrev pub hash_number : OtpHash → ℕ
hash_number Sha1 = 1
hash_number Sha256 = 256
hash_number Sha512 = 512

-- no hash function has this number
abbrev pub IsNoHash : ℕ → Type 0
IsNoHash number = (hash : OtpHash) → number ≡ hash_number hash → ⊥

-- the step that passed last; none has if the number is 2 ^ 64 - 1
abbrev pub last_of : ℕ → Option ℕ
last_of number = if number == 2 ^ 64 - 1 then None else Some number

-- the TOTP token with this hash function, this secret and these numbers
abbrev pub totp_fields : OtpHash → (secret : List ℕ) → TotpToken → TotpFields
totp_fields hash secret t = record {
  hash = hash;
  secret = secret;
  digits = t.digits;
  t0 = t.t0;
  step = t.step;
  back = t.back;
  ahead = t.ahead;
  max_drift = t.max_drift;
  last = last_of t.last;
  drift = t.drift;
  limit = t.limit;
  failures = t.failures;
}

-- what is demanded of a TOTP token and a moment
abbrev pub totp_demands : OtpHash → (secret : List ℕ) → TotpToken → (moment : ℕ) → List Demand
totp_demands hash secret t moment =
    demand 40 (IsSecretLength (length secret))
    ∷ demand 41 (IsDigitCount t.digits)
    ∷ demand 95 (IsMoment t.t0)
    ∷ demand 95 (IsMoment moment)
    ∷ demand 42 (IsTotpInRange (totp_fields hash secret t))
    ∷ []
