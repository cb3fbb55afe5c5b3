-- The words that the program understands: its commands, and the options of each.
use Rattle.std.specs.Prelude.{ℕ, ◌≡◌, true, false, List, [], ◌∷◌, codes}
use Rattle.std.specs.declared.option.Option.{Option}
use Rattle.std.specs.declared.option.Option.TheVariants.{Some}
use Rattle.clap.specs.Simple.{new_shape}
use Rattle.clap.specs.Words.{App, Row, Rule, Shape, Text, app_of, new_rule}
use Rattle.clap.specs.declared.builder.action.ArgAction.TheVariants.{Set}
use Rattle.clap.specs.declared.builder.command.Command.{Command}
use Rattle.clap.specs.declared.builder.command.Command.TheViews.{out-Command as fields_of}
use Rattle.command_line.specs.Options.{option_name}
use Rattle.command_line.specs.declared.option_name.OptionName.{OptionName}
use Rattle.command_line.specs.declared.option_name.OptionName.TheVariants.{Book, Log, Name, As, Socket, Random, ClientNonce, ServerNonce, Mechanism}
use Rattle.command_line.specs.declared.option_name.OptionName.TheVariants.{Salt, Count, Secret, Digits, Counter, Moment, Hash, T0, Step, Account, Event}

-- each command of the program, in the order of its help
pub data CommandName : Type 0 where
  Keys : CommandName
  Enrol : CommandName
  Code : CommandName
  Verify : CommandName
  Unlock : CommandName
  Login : CommandName
  Hall : CommandName
  Audit : CommandName
  Report : CommandName
  Upgrade : CommandName

-- the word that names a command
abbrev pub word_of : CommandName → List ℕ
word_of Keys = codes "keys"
word_of Enrol = codes "enrol"
word_of Code = codes "code"
word_of Verify = codes "verify"
word_of Unlock = codes "unlock"
word_of Login = codes "login"
word_of Hall = codes "hall"
word_of Audit = codes "audit"
word_of Report = codes "report"
word_of Upgrade = codes "upgrade"

-- an option that takes one value, and may be left out
abbrev pub one_value : OptionName → Rule
one_value name = record (new_rule (option_name name)) { long = Some (option_name name); value_names = 1; action = Some Set }

-- an option that must be given
abbrev pub required_value : OptionName → Rule
required_value name = record (one_value name) { required = true }

-- an option that may be left out, and then has this default
abbrev pub with_default : OptionName → (default : List ℕ) → Rule
with_default name default = record (one_value name) { defaults = default ∷ [] }

-- a command of this name, with these options
abbrev pub command : (name : List ℕ) → List Rule → Shape
command name options = record (new_shape name) { rules = options }

-- the options of `keys`; as in those below, in the order of its help
abbrev pub keys_options : List Rule
keys_options = required_value Mechanism ∷ required_value Salt ∷ required_value Count ∷ []

-- the options of `enrol`
abbrev pub enrol_options : List Rule
enrol_options = required_value Book ∷ required_value Name ∷ with_default Count (codes "4096")
    ∷ with_default Random (codes "/dev/urandom") ∷ []

-- the options of `code`
abbrev pub code_options : List Rule
code_options = required_value Secret ∷ with_default Digits (codes "6") ∷ one_value Counter
    ∷ one_value Moment ∷ with_default Hash (codes "sha1") ∷ with_default T0 (codes "0")
    ∷ with_default Step (codes "30") ∷ []

-- the options of `verify`
abbrev pub verify_options : List Rule
verify_options = required_value Book ∷ required_value Name ∷ required_value Moment ∷ []

-- the options of `unlock`
abbrev pub unlock_options : List Rule
unlock_options = required_value Book ∷ required_value Name ∷ []

-- the options of `login`
abbrev pub login_options : List Rule
login_options = required_value Book ∷ required_value Name ∷ one_value Mechanism ∷ one_value As
    ∷ required_value Socket ∷ with_default Random (codes "/dev/urandom") ∷ one_value ClientNonce
    ∷ one_value ServerNonce ∷ one_value Moment ∷ []

-- the options of `hall`
abbrev pub hall_options : List Rule
hall_options = required_value Book ∷ []

-- the options of `audit`
abbrev pub audit_options : List Rule
audit_options = required_value Book ∷ required_value Log ∷ []

-- the options of `report`
abbrev pub report_options : List Rule
report_options = required_value Book ∷ required_value Log ∷ one_value Account ∷ one_value Event ∷ []

-- the options of `upgrade`
abbrev pub upgrade_options : List Rule
upgrade_options = required_value Log ∷ []

-- the program: one of its commands must be named, and none of them is `help`
abbrev pub program : App
program = record {
  top = record (new_shape (codes "scramotp")) {
    is_leaf = false;
    has_version = true;
    subcommand_required = true;
    disable_help_subcommand = true;
  };
  subs = command (word_of Keys) keys_options
      ∷ command (word_of Enrol) enrol_options
      ∷ command (word_of Code) code_options
      ∷ command (word_of Verify) verify_options
      ∷ command (word_of Unlock) unlock_options
      ∷ command (word_of Login) login_options
      ∷ command (word_of Hall) hall_options
      ∷ command (word_of Audit) audit_options
      ∷ command (word_of Report) report_options
      ∷ command (word_of Upgrade) upgrade_options ∷ [];
}

-- what clap finds in a command line is one of the commands, and the values of its options
abbrev pub NamesCommand : (found : Option (Text × List Row)) → Type 0
NamesCommand found = (name : CommandName) × (values : List Row) × (found ≡ Some (word_of name, values))

-- clap reads the words of the command of this name according to these options, none of which is global
abbrev pub HasOptions : (name : List ℕ) → List Rule → Command → Type 0
HasOptions name options c = (app_of c ≡ record { top = command name options; subs = [] }) × ((fields_of c).has_globals ≡ false)
