-- A command line without a fault names one of the commands.
use Rattle.std.proofs.Common.{◌≡◌, ◌&&◌, Bool, true, false, not, List, [], ◌∷◌, Option, Some, None, is_some, map, refl}
use Rattle.std.specs.Prelude.{IfSome, ⊤, find, if◌then◌else◌, option_map}
use Rattle.clap.specs.Faults.{check_fault, defaults_fault, entered_fault, level_fault, settle_fault, walk_fault}
use Rattle.clap.specs.Kinds.{check_kinds, or_else}
use Rattle.clap.specs.Simple.{argument_words, entered, label_of, names_of, rows_at}
use Rattle.clap.specs.Walk.{Held, Names, answers_to, finished, nothing_held, settled, stop_after, walk, walk_from}
use Rattle.clap.specs.Words.{App, Kinds, Row, Shape, Text, built, fault_of, subcommand_of}
use Rattle.command_words.specs.Commands.CommandName.{Keys, Enrol, Code, Verify, Unlock, Login, Hall, Audit, Report, Upgrade}
use Rattle.command_words.specs.Commands.{CommandName, NamesCommand, program, word_of}

-- if two steps find no error, the second finds none
second_finds_none : (one two : Kinds) → or_else one two ≡ [] → two ≡ []
second_finds_none [] two none = none
second_finds_none (kind ∷ kinds) two none = absurd (cc none)

-- if the checks of what is required find no error, no subcommand is missing
no_subcommand_is_wanted : (help command argument : Bool) → check_kinds help command argument ≡ [] → command ≡ false
no_subcommand_is_wanted true command argument none = absurd (cc none)
no_subcommand_is_wanted false true argument none = absurd (cc none)
no_subcommand_is_wanted false false argument none = refl

-- what is required, and not missing, is present
wanted_is_there : (there wanted : Bool) → not there && wanted ≡ false → wanted ≡ true → there ≡ true
wanted_is_there true wanted none is = refl
wanted_is_there false true none is = absurd (cc none)
wanted_is_there false false none is = absurd (cc is)

-- a command that needs a subcommand has entered one if its words have no fault
needed_subcommand_is_entered : (shape : Shape) (names : Names) (held : Held) (words : List Text) (enters : Bool) (below : Kinds)
    → level_fault shape names held words enters below ≡ [] → shape.subcommand_required ≡ true → enters ≡ true
needed_subcommand_is_entered shape names held words enters below none is =
    let end = (walk shape.rules names held words).held in
    let walked = second_finds_none (walk_fault shape names (walk_from held) words) _ none in
    let entered = second_finds_none below _ walked in
    let held_over = second_finds_none (settle_fault shape.rules shape.args_override_self end) _ entered in
    let checked : check_fault shape (finished shape.rules end) enters
    ≡ [] = second_finds_none (defaults_fault (settled shape.rules end).rows shape.rules) _ held_over in
    wanted_is_there enters shape.subcommand_required (search (no_subcommand_is_wanted, checked)) is

-- each of some names has a property
abbrev Each : (Text → Type 0) → (names : List Text) → Type 0
Each P [] = ⊤
Each P (name ∷ names) = P name × Each P names

-- the names of an app's commands
abbrev names_in : App → List Text
names_in app = map (λ shape. shape.name) app.subs

-- if each name has a property, the name of the shape that is found has it
found_shape_has_property : (P : Text → Type 0) (test : Shape → Bool) (shapes : List Shape) → Each P (map (λ shape. shape.name) shapes)
    → IfSome (find test shapes) (λ shape. P shape.name)
found_shape_has_property P test [] each = tt
found_shape_has_property P test (shape ∷ shapes) (first, rest) = by (test shape) (found_shape_has_property P test shapes rest)
  where
    by : (passes : Bool) → IfSome (find test shapes) (λ s. P s.name)
        → IfSome (if passes then Some shape else find test shapes) (λ s. P s.name)
    by true later = first
    by false later = later

-- if each name has a property, what was entered has a name with this property, and values
entered_name_has_property : (P : Text → Type 0) (app : App) (stop : Option (Text × List Text)) → Each P (names_in app)
    → is_some (entered app stop) ≡ true
    → (name : Text) × (rows : List Row) × P name × (entered app stop ≡ Some (name, rows))
entered_name_has_property P app None each there = absurd (cc there)
entered_name_has_property P app (Some (word, rest)) each there =
    by (find (λ s. answers_to word (label_of s)) app.subs) (found_shape_has_property P (λ s. answers_to word (label_of s)) app.subs each)
    there
  where
    by : (found : Option Shape) → IfSome found (λ s. P s.name) → is_some (option_map (λ s. rows_at s rest) found) ≡ true
        → (name : Text) × (rows : List Row) × P name × (option_map (λ s. rows_at s rest) found ≡ Some (name, rows))
    by None is there = absurd (cc there)
    by (Some shape) is there = (_, _, is, refl)

-- if the app needs a command and each command's name has a property, a line without a fault gives the name of one that has it
faultless_line_enters_subcommand : (P : Text → Type 0) (app : App) (line : List Text) → (built app).top.subcommand_required ≡ true
    → Each P (names_in (built app))
    → fault_of app line ≡ [] → (name : Text) × (rows : List Row) × P name × (subcommand_of app line ≡ Some (name, rows))
faultless_line_enters_subcommand P app line needed each none =
    let stop = stop_after (built app).top.rules (names_of (built app)) (argument_words app line) in
    entered_name_has_property P (built app) stop each (needed_subcommand_is_entered _ _ nothing_held (argument_words app line) _
    (entered_fault (built app) stop) none needed)

-- the name is the word of a command
abbrev IsCommandWord : Text → Type 0
IsCommandWord name = (command : CommandName) × (name ≡ word_of command)

-- all commands of the program
abbrev all_commands : List CommandName
all_commands = Keys ∷ Enrol ∷ Code ∷ Verify ∷ Unlock ∷ Login ∷ Hall ∷ Audit ∷ Report ∷ Upgrade ∷ []

-- each word of these commands is the word of a command
each_is_command_word : (commands : List CommandName) → Each IsCommandWord (map word_of commands)
each_is_command_word [] = tt
each_is_command_word (command ∷ commands) = ((command, refl), each_is_command_word commands)

-- a command line without a fault names one of the program's commands
pub faultless_line_names_command : (line : List Text) → fault_of program line ≡ [] → NamesCommand (subcommand_of program line)
faultless_line_names_command line none =
    let one = faultless_line_enters_subcommand IsCommandWord program line refl (each_is_command_word all_commands) none in
    let (command, is) = one.2 in
    (command, one.1, rw is at one.3)
