-- What the command `keys` prints.
use Rattle.std.specs.Prelude.{ℕ, ◌≡◌, ◌⊎◌, List, [], ◌∷◌, ◌++◌, codes, Option, Ok}
use Rattle.std.specs.Str.{byte}
use Rattle.std.specs.Fmt.{decimal}
use Rattle.std.specs.Io.KnownBytes.{Appends}
use Rattle.hex.specs.Hex.{encode_lower, decode_of}
use Rattle.clap.specs.declared.parser.matches.ArgMatches.{ArgMatches}
use Rattle.mac_core.specs.declared.mechanism.Mechanism.{Mechanism}
use Rattle.mac_core.specs.Mechanism.{name_of, password_stored_key_by, password_server_key_by}
use Rattle.scram_text.specs.Class.{IsPassword, IsSalt}
use Rattle.scram_text.specs.Parts.{IsCount}
use Rattle.command_line.specs.declared.fault.Fault.{Fault}
use Rattle.command_line.specs.declared.fault.Fault.TheVariants.{CannotWriteOutput}
use Rattle.command_line.specs.declared.option_name.OptionName.TheVariants as option
use Rattle.command_words.specs.Values.{given_value, HasBadValue}
use Rattle.command_io.specs.Input.{IsFirstLine, IsInputUnreadOrNoMemory, HasBadPassword}

-- the two lines of `keys`: StoredKey and ServerKey of a password (RFC 5802, section 3) in lower-case hexadecimal, each after its name and
-- an equals sign
abbrev pub printed_keys : Mechanism → (password salt : List ℕ) → (count : ℕ) → List ℕ
printed_keys mechanism password salt count =
    codes "stored=" ++ (encode_lower (password_stored_key_by mechanism password salt count)
    ++ (byte "\n" ∷ codes "server=" ++ (encode_lower (password_server_key_by mechanism password salt count) ++ byte "\n" ∷ [])))

-- the keys of the password that is the first line of the input are printed, with the mechanism, salt and count that the words give
pub record PrintsKeysAsked (words : ArgMatches) (input old new : Option (List ℕ)) : Type 0 where
  pub mechanism : Mechanism
  pub is_mechanism : given_value words option.Mechanism ≡ name_of mechanism
  pub salt : List ℕ
  pub is_salt : decode_of (given_value words option.Salt) ≡ Ok salt
  pub salt_range : IsSalt salt
  pub count : ℕ
  pub is_count : given_value words option.Count ≡ decimal count
  pub count_range : IsCount count
  pub password : List ℕ
  pub is_first_line : IsFirstLine input password
  pub is_password : IsPassword password
  pub printed : Appends old new (printed_keys mechanism password salt count)

-- the fault that ends `keys`: an option refuses its value, the first line of the input is not a password or can't be read, the output can't
-- be written, or memory ran out
abbrev pub CannotPrintKeys : ArgMatches → (input : Option (List ℕ)) → Fault → Type 0
CannotPrintKeys words input fault =
    HasBadValue (option.Mechanism ∷ option.Salt ∷ option.Count ∷ []) words fault
    ⊎ (HasBadPassword input fault ⊎ (IsInputUnreadOrNoMemory fault ⊎ (fault ≡ CannotWriteOutput)))
