-- The code that the words of the command `code` ask for.
use Rattle.std.specs.Prelude.{◌≡◌, ◌⊎◌, ℕ, ◌≤◌, ◌<◌, List, [], ◌∷◌, ◌++◌, length, Option, Ok}
use Rattle.std.specs.Str.{byte}
use Rattle.std.specs.Fmt.{decimal}
use Rattle.std.specs.Io.KnownBytes.{Appends}
use Rattle.std.specs.declared.option.Option.TheVariants.{None, Some}
use Rattle.hex.specs.Hex.{decode_of}
use Rattle.clap.specs.declared.parser.matches.ArgMatches.{ArgMatches}
use Rattle.otp_core.specs.Code.{steps_from}
use Rattle.otp_core.specs.Hash.{hash_name, hotp_text_by}
use Rattle.otp_core.specs.Ranges.{IsCounter, IsStepLength, IsDigitCount, IsMoment, IsSecretLength}
use Rattle.otp_core.specs.declared.hash.OtpHash.TheVariants.{Sha1}
use Rattle.command_line.specs.declared.fault.Fault.{Fault}
use Rattle.command_line.specs.declared.fault.Fault.TheVariants.{NoCounterOrMoment, BeforeFirstStep, CannotWriteOutput, NoMemory}
use Rattle.command_line.specs.declared.option_name.OptionName.TheVariants as option
use Rattle.command_words.specs.Values.{value_of, given_value, GivesBadValue, HasBadValue}
use Rattle.account_commands.specs.declared.moving_factor.MovingFactor.{MovingFactor}
use Rattle.account_commands.specs.declared.moving_factor.MovingFactor.TheVariants.{Counter, Time}

-- the code for a moving factor: the HOTP code of a counter, with SHA-1 (RFC 4226), or the TOTP code of a moment, with steps that
-- begin at t0 (RFC 6238)
abbrev pub IsCodeFor : MovingFactor → (digits : ℕ) → (secret code : List ℕ) → Type 0
IsCodeFor (Counter counter) digits secret code = code ≡ hotp_text_by Sha1 digits secret counter
IsCodeFor (Time t) digits secret code =
    (t.t0 ≤ t.moment) × (code ≡ hotp_text_by t.hash digits secret (steps_from t.t0 t.step t.moment))

-- there is no code: the moment is before t0
abbrev pub IsTooEarly : MovingFactor → Type 0
IsTooEarly (Counter counter) = ⊥
IsTooEarly (Time t) = t.moment < t.t0

-- the moving factor has its numbers in the ranges of the options that give them
abbrev pub IsFactorInRange : MovingFactor → Type 0
IsFactorInRange (Counter counter) = IsCounter counter
IsFactorInRange (Time t) = IsMoment t.moment × IsMoment t.t0 × IsStepLength t.step

-- what the words ask a code for: a counter, or else a moment, with the hash function and the steps that they give
abbrev pub IsFactorAsked : ArgMatches → MovingFactor → Type 0
IsFactorAsked words (Counter counter) = value_of words option.Counter ≡ Some (decimal counter)
IsFactorAsked words (Time t) =
    (value_of words option.Counter ≡ None) × (value_of words option.Moment ≡ Some (decimal t.moment))
    × (given_value words option.Hash ≡ hash_name t.hash) × (given_value words option.T0 ≡ decimal t.t0)
    × (given_value words option.Step ≡ decimal t.step)

-- the words ask for this code: the secret is given in hexadecimal
pub record IsCodeAsked (words : ArgMatches) (code : List ℕ) : Type 0 where
  pub secret : List ℕ
  pub is_secret : decode_of (given_value words option.Secret) ≡ Ok secret
  pub secret_range : IsSecretLength (length secret)
  pub digits : ℕ
  pub are_digits : given_value words option.Digits ≡ decimal digits
  pub digits_range : IsDigitCount digits
  pub factor : MovingFactor
  pub is_factor : IsFactorAsked words factor
  pub factor_range : IsFactorInRange factor
  pub is_code : IsCodeFor factor digits secret code

-- the code that the words ask for is printed
abbrev pub PrintsCodeAsked : (words : ArgMatches) → (old new : Option (List ℕ)) → Type 0
PrintsCodeAsked words old new = (code : List ℕ) × IsCodeAsked words code × Appends old new (code ++ byte "\n" ∷ [])

-- the words ask for a code for a moment before t0
abbrev pub IsAskedTooEarly : ArgMatches → Type 0
IsAskedTooEarly words = (factor : MovingFactor) × IsFactorAsked words factor × IsTooEarly factor

-- the words give no moving factor: an option refuses its value, or neither a counter nor a moment is given
abbrev pub LacksFactor : ArgMatches → Fault → Type 0
LacksFactor words fault =
    HasBadValue (option.Hash ∷ option.T0 ∷ option.Step ∷ []) words fault
    ⊎ (GivesBadValue option.Counter words fault ⊎ (GivesBadValue option.Moment words fault
    ⊎ ((fault ≡ NoCounterOrMoment) × (value_of words option.Counter ≡ None) × (value_of words option.Moment ≡ None))))

-- the fault that ends `code`: an option refuses its value, the words give no moving factor, the moment is before t0, the output can't be
-- written, or memory ran out
abbrev pub CannotPrintCode : ArgMatches → Fault → Type 0
CannotPrintCode words fault =
    HasBadValue (option.Secret ∷ option.Digits ∷ []) words fault
    ⊎ (LacksFactor words fault ⊎ (((fault ≡ BeforeFirstStep) × IsAskedTooEarly words)
    ⊎ ((fault ≡ CannotWriteOutput) ⊎ (fault ≡ NoMemory))))
