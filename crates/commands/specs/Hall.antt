-- The input of the command `hall`, the log that it prints, and which faults end it.
use Rattle.std.specs.Prelude.{ℕ, ◌≡◌, ◌⊎◌, List, ◌∷◌, ◌++◌, reverse, codes, decimal}
use Rattle.std.specs.List.{AllZip}
use Rattle.std.specs.Str.{byte}
use Rattle.std.specs.Io.KnownBytes.{Appends}
use Rattle.std.specs.declared.option.Option.{Option}
use Rattle.clap.specs.declared.parser.matches.ArgMatches.{ArgMatches}
use Rattle.scram_text.specs.Class.{IsNoncePart}
use Rattle.account_book.specs.{BookFields}
use Rattle.account_book.specs.Store.{StoreFacts}
use Rattle.book_file.specs.Saved.{IsSavedText}
use Rattle.command_line.specs.declared.fault.Fault.{Fault}
use Rattle.command_line.specs.declared.fault.Fault.TheVariants.{BadEvent}
use Rattle.command_line.specs.declared.option_name.OptionName.TheVariants as option
use Rattle.command_words.specs.Values.{given_value}
use Rattle.log_grammar.specs.Demands.{Accounts}
use Rattle.log_grammar.specs.Numbered.{Numbered, of_number}
use Rattle.log_grammar.specs.NumberedLines.{IsSessionNumber}
use Rattle.log_grammar.specs.Books.{accounts_in}
use Rattle.log_grammar.specs.Places.{Place, between}
use Rattle.log_grammar.specs.Versions.{IsLogFront}
use Rattle.sasl_desk.specs.{IsMoment}
use Rattle.sasl_desk.specs.Events.{ClientEvent, sends, goes_away}
use Rattle.sasl_desk.specs.Halls.{hall_lines, hall_bytes, IsSessionRun}
use Rattle.sasl_desk.specs.Runs.{greets, hears, Call}
use Rattle.sasl_desk.specs.Saved.{AreLinesSaved}
use Rattle.command_io.specs.File.{IsFileUnwrittenOrNoMemory}
use Rattle.command_io.specs.HeldBook.{IsReadBook, CannotOpenBook}
use Rattle.command_io.specs.Input.{AreFirstLines}
use Rattle.commands.specs.PrintedLog.{StopsAfter, StopsServing, HaltsNumberIfUnsaved}

-- an event of a hall: a client comes, and this is the server's part of its nonce; or the client of the session of this number sends a
-- line or goes away, at this moment
pub data InputEvent : Type 0 where
  opens : (server_nonce : List ℕ) → InputEvent
  does_at : (session : ℕ) (event : ClientEvent) (moment : ℕ) → InputEvent

-- the input line for an event
abbrev pub event_text : InputEvent → List ℕ
event_text (opens server_nonce) = codes "open " ++ server_nonce
event_text (does_at session (sends text) moment) = codes "line " ++ (decimal session ++ (byte " " ∷ (decimal moment ++ (byte " " ∷ text))))
event_text (does_at session goes_away moment) = codes "gone " ++ (decimal session ++ (byte " " ∷ decimal moment))

-- the nonce, the number and the moment of an event are in their ranges
abbrev pub IsEventInRange : InputEvent → Type 0
IsEventInRange (opens server_nonce) = IsNoncePart server_nonce
IsEventInRange (does_at session event moment) = IsSessionNumber session × IsMoment moment

-- an input line says this event
pub record SaysEvent (line : List ℕ) (event : InputEvent) : Type 0 where
  pub spelled : line ≡ event_text event
  pub ranges : IsEventInRange event

-- after these calls of a hall the event is that of a session that is not open: it has not begun, or it has ended
abbrev pub IsOfClosedSessionAfter : Accounts → List (Numbered Call) → InputEvent → Type 0
IsOfClosedSessionAfter accounts calls (opens server_nonce) = ⊥
IsOfClosedSessionAfter accounts calls (does_at session event moment) = IsSessionRun accounts (of_number session calls) between

-- an input line says no event
abbrev pub SaysNoEvent : List ℕ → Type 0
SaysNoEvent line = (event : InputEvent) → SaysEvent line event → ⊥

-- the call with which a hall hears an event: a greeting, or one of the session of its number
abbrev pub IsCallFor : InputEvent → Numbered Call → Type 0
IsCallFor (opens server_nonce) c = c.value.request ≡ greets server_nonce
IsCallFor (does_at session event moment) c = (c.number ≡ session) × (c.value.request ≡ hears event moment)

-- calls with which a hall heard these events, the latest of which comes first
abbrev pub AreCallsFor : List InputEvent → List (Numbered Call) → Type 0
AreCallsFor events calls = AllZip IsCallFor events calls

-- the events that the lines of an input say, in order; `last` are its last lines, which are left out
pub record SaysEvents (input : Option (List ℕ)) (last : List (List ℕ)) : Type 0 where
  pub lines : List (List ℕ)
  pub events : List InputEvent
  pub are : AreFirstLines input lines last
  pub said : AllZip SaysEvent lines events

-- a hall that began with this book heard the lines of an input, and leaves this store; `last` are its last lines, which are left out
pub record PrintsHallLog (IsStored : List ℕ → Type 0) (book : BookFields) (input : Option (List ℕ)) (last : List (List ℕ))
    (store : StoreFacts) (old new : Option (List ℕ)) : Type 0 where
  -- the hall heard what the lines say, in order
  pub says : SaysEvents input last
  pub calls : List (Numbered Call)
  pub heard : AreCallsFor (reverse says.events) calls
  -- the calls of each session were answered as at a desk, or the session was turned away
  pub runs : (number : ℕ) → (place : Place) × IsSessionRun (accounts_in book) (of_number number calls) place
  -- what it logged is a front, and is printed
  pub is_front : IsLogFront (accounts_in book) (hall_bytes calls)
  pub printed : Appends old new (hall_bytes calls)
  -- the replies in the log are saved in the store
  pub saved : AreLinesSaved IsStored book (hall_lines calls) store
  -- after a save that failed, the last line is `S HALT`
  pub halts : HaltsNumberIfUnsaved store (hall_lines calls)

-- after these calls of a hall the line says no event, or one of a session that is not open
abbrev pub IsBadEventAfter : Accounts → List (Numbered Call) → (line : List ℕ) → Type 0
IsBadEventAfter accounts calls line =
    SaysNoEvent line ⊎ ((event : InputEvent) × SaysEvent line event × IsOfClosedSessionAfter accounts calls event)

-- `PrintsHallLog`, with a book that was read from a file, and saved by being written to one
pub record RunsHall {File : Type 0} (bytes_of written_to : File → Option (List ℕ)) (input : Option (List ℕ)) (last : List (List ℕ))
    (old new : Option (List ℕ)) : Type 0 where
  pub text : List ℕ
  pub book : BookFields
  pub is_read : IsReadBook bytes_of text book
  -- that this store is the run's is in the contract of `hear_input`
  pub store : StoreFacts
  pub printed : PrintsHallLog (IsSavedText written_to) book input last store old new

-- a hall runs (`RunsHall`), and the next line of its input says no event, or one of a session that is not open
abbrev pub RunsToBadEvent : {File : Type 0} → (bytes_of written_to : File → Option (List ℕ)) → (input old new : Option (List ℕ)) → Type 0
RunsToBadEvent bytes_of written_to input old new =
    (line : List ℕ) × (last : List (List ℕ)) × (run : RunsHall bytes_of written_to input (line ∷ last) old new)
    × IsBadEventAfter (accounts_in run.book) run.printed.calls line

-- the fault at which a hall stops hearing: a line of its input says no event, or one of a session that is not open; or the hall stops
-- (`StopsServing`)
abbrev pub StopsHearing : (path : List ℕ) → Fault → Type 0
StopsHearing path fault = StopsServing BadEvent path fault

-- the fault that ends `hall`, and what is printed before it: the book can't be held or read, and nothing is printed; or the hall stops
-- hearing, and the log of what it heard is printed, unless the output fails. Nothing is printed if the hall has not begun, since the book
-- can't be saved or memory ran out. At a bad event all lines before it are heard.
abbrev pub StopsHall : {File : Type 0} → (bytes_of written_to : File → Option (List ℕ)) → ArgMatches → Fault
    → (input old new : Option (List ℕ)) → Type 0
StopsHall bytes_of written_to words fault input old new =
    (CannotOpenBook bytes_of (given_value words option.Book) fault × (new ≡ old))
    ⊎ (StopsHearing (given_value words option.Book) fault
    × StopsAfter fault (IsFileUnwrittenOrNoMemory (given_value words option.Book) fault) old new
    ((last : List (List ℕ)) × RunsHall bytes_of written_to input last old new)
    × (fault ≡ BadEvent → RunsToBadEvent bytes_of written_to input old new))
