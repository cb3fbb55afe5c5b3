-- The values that the words of a command give for its options, and those that an option refuses.
use Rattle.std.specs.Prelude.{ℕ, ◌≡◌, ◌⊎◌, List, [], ◌∷◌, unwrap_or}
use Rattle.std.specs.declared.option.Option.{Option}
use Rattle.std.specs.declared.option.Option.TheVariants.{Some}
use Rattle.clap.specs.Matches.{found_of, first_value}
use Rattle.clap.specs.declared.parser.matches.ArgMatches.{ArgMatches}
use Rattle.command_line.specs.Options.{option_name}
use Rattle.command_line.specs.Values.{Refuses}
use Rattle.command_line.specs.declared.fault.Fault.{Fault}
use Rattle.command_line.specs.declared.fault.Fault.TheVariants.{BadValue}
use Rattle.command_line.specs.declared.option_name.OptionName.{OptionName}

-- the value of an option, if the words give one or it has a default
abbrev pub value_of : ArgMatches → OptionName → Option (List ℕ)
value_of words option = first_value (found_of words) (option_name option)

-- the value of an option that is required or has a default; the empty text if the words give none, which is not a name, number, hash
-- function, mechanism, salt or secret
abbrev pub given_value : ArgMatches → OptionName → List ℕ
given_value words option = unwrap_or (value_of words option) []

-- one of these options refuses the value that the words give, and the fault names it
abbrev pub HasBadValue : List OptionName → ArgMatches → Fault → Type 0
HasBadValue [] words fault = ⊥
HasBadValue (name ∷ others) words fault =
    ((fault ≡ BadValue name) × Refuses name (given_value words name)) ⊎ HasBadValue others words fault

-- the words give a value for this option, which refuses it
abbrev pub GivesBadValue : OptionName → ArgMatches → Fault → Type 0
GivesBadValue name words fault =
    (fault ≡ BadValue name) × ((text : List ℕ) × (value_of words name ≡ Some text) × Refuses name text)
