-- The texts that are no value of an option.
use Rattle.std.specs.Prelude.{ℕ, ◌≡◌, ◌≢◌, List, length, Ok}
use Rattle.std.specs.Fmt.{decimal}
use Rattle.hex.specs.Hex.{decode_of}
use Rattle.mac_core.specs.Mechanism.{name_of}
use Rattle.mac_core.specs.declared.mechanism.Mechanism.{Mechanism}
use Rattle.otp_core.specs.Hash.{hash_name}
use Rattle.otp_core.specs.Ranges.{IsCounter, IsStepLength, IsDigitCount, IsMoment, IsSecretLength}
use Rattle.otp_core.specs.declared.hash.OtpHash.{OtpHash}
use Rattle.scram_text.specs.Class.{IsNoncePart, IsPlainName, IsSalt}
use Rattle.scram_text.specs.Parts.{IsCount}
use Rattle.command_line.specs.declared.option_name.OptionName.{OptionName}
use Rattle.command_line.specs.declared.option_name.OptionName.TheVariants as option

-- an option refuses this text; a path may be any text. Which texts `--event` refuses is said where events are (`log_report`).
abbrev pub Refuses : OptionName → (text : List ℕ) → Type 0
Refuses option.Name text = IsPlainName text → ⊥
Refuses option.Mechanism text = (mechanism : Mechanism) → text ≢ name_of mechanism
Refuses option.Salt text = (salt : List ℕ) → decode_of text ≡ Ok salt → IsSalt salt → ⊥
Refuses option.Count text = (n : ℕ) → IsCount n → text ≢ decimal n
Refuses option.Secret text = (secret : List ℕ) → decode_of text ≡ Ok secret → IsSecretLength (length secret) → ⊥
Refuses option.Digits text = (n : ℕ) → IsDigitCount n → text ≢ decimal n
Refuses option.Counter text = (n : ℕ) → IsCounter n → text ≢ decimal n
Refuses option.Moment text = (n : ℕ) → IsMoment n → text ≢ decimal n
Refuses option.Hash text = (hash : OtpHash) → text ≢ hash_name hash
Refuses option.T0 text = (n : ℕ) → IsMoment n → text ≢ decimal n
Refuses option.Step text = (n : ℕ) → IsStepLength n → text ≢ decimal n
Refuses option.As text = IsPlainName text → ⊥
Refuses option.Account text = IsPlainName text → ⊥
Refuses option.ClientNonce text = IsNoncePart text → ⊥
Refuses option.ServerNonce text = IsNoncePart text → ⊥
Refuses other text = ⊥
