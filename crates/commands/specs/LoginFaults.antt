-- Which faults end the command `login`, what is known of each, and what is printed before it.
use Rattle.std.specs.Prelude.{ℕ, ◌≡◌, ◌⊎◌, List, [], ◌∷◌}
use Rattle.std.specs.declared.option.Option.{Option}
use Rattle.clap.specs.declared.parser.matches.ArgMatches.{ArgMatches}
use Rattle.command_line.specs.declared.option_name.OptionName.TheVariants as option
use Rattle.command_line.specs.declared.fault.Fault.{Fault}
use Rattle.command_line.specs.declared.fault.Fault.TheVariants.{Socket}
use Rattle.command_words.specs.Values.{given_value, GivesBadValue, HasBadValue}
use Rattle.command_io.specs.File.{IsFileUnreadOrNoMemory, IsFileUnwrittenOrNoMemory}
use Rattle.command_io.specs.HeldBook.{CannotOpenBook}
use Rattle.command_io.specs.Input.{IsInputUnreadOrNoMemory, HasBadPassword}
use Rattle.commands.specs.Login.{PrintsLoginFront}
use Rattle.commands.specs.PrintedLog.{StopsAfter, StopsServing}

-- an option of `login` refuses the value that the words give, and the fault names it
abbrev pub HasBadLoginValue : ArgMatches → Fault → Type 0
HasBadLoginValue words fault =
    HasBadValue (option.Name ∷ []) words fault
    ⊎ (GivesBadValue option.Mechanism words fault
    ⊎ (GivesBadValue option.As words fault
    ⊎ (GivesBadValue option.ClientNonce words fault
    ⊎ (GivesBadValue option.ServerNonce words fault ⊎ GivesBadValue option.Moment words fault))))

-- what a login begins with is not there: an option refuses its value, the first line of the input is not a password or can't be read, the
-- book can't be held or read, the file of random bytes can't be read, or memory ran out
abbrev pub CannotPrepare : {File : Type 0} → (bytes_of : File → Option (List ℕ)) → ArgMatches → (input : Option (List ℕ)) → Fault → Type 0
CannotPrepare bytes_of words input fault =
    HasBadLoginValue words fault
    ⊎ (HasBadPassword input fault
    ⊎ (IsInputUnreadOrNoMemory fault
    ⊎ (CannotOpenBook bytes_of (given_value words option.Book) fault ⊎ IsFileUnreadOrNoMemory (given_value words option.Random) fault)))

-- the fault that ends a talk: the socket fails, or its desk stops (`StopsServing`)
abbrev pub StopsTalking : (path : List ℕ) → Fault → Type 0
StopsTalking path fault = StopsServing Socket path fault

-- the fault that ends `login`, and what is printed before it: what it begins with is not there, and nothing is printed; or its talk
-- ends, and the front of a log is printed, unless the output fails. Nothing is printed if the desk has not begun, since the socket can't be
-- made, the book can't be saved or memory ran out.
abbrev pub StopsLogin : {File : Type 0} → (bytes_of written_to : File → Option (List ℕ)) → ArgMatches → Fault
    → (input old new : Option (List ℕ)) → Type 0
StopsLogin bytes_of written_to words fault input old new =
    (CannotPrepare bytes_of words input fault × (new ≡ old))
    ⊎ (StopsTalking (given_value words option.Book) fault
    × StopsAfter fault ((fault ≡ Socket) ⊎ IsFileUnwrittenOrNoMemory (given_value words option.Book) fault) old new
    (PrintsLoginFront bytes_of written_to words old new))
