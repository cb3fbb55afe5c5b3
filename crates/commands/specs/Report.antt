-- What the command `report` prints, and for which files; and what it has printed when a fault ends it.
use Rattle.std.specs.Prelude.{ℕ, ◌≡◌, ◌≢◌, ◌⊎◌, Bool, true, false, ◌&&◌, List, ◌++◌, filter}
use Rattle.std.specs.Option.{ForSome, option_map_or}
use Rattle.std.specs.Str.{bytes_eq}
use Rattle.std.specs.Io.KnownBytes.{Appends, Consumes}
use Rattle.std.specs.declared.option.Option.{Option}
use Rattle.std.specs.declared.option.Option.TheVariants.{Some}
use Rattle.std.specs.declared.result.Result.{Result}
use Rattle.std.specs.declared.result.Result.TheVariants.{Err}
use Rattle.clap.specs.declared.parser.matches.ArgMatches.{ArgMatches}
use Rattle.scram_text.specs.Class.{IsPlainName}
use Rattle.scram_text.specs.SplitLines.{ended_by_lf}
use Rattle.account_book.specs.{BookFields}
use Rattle.command_line.specs.Values.{Refuses}
use Rattle.command_line.specs.declared.fault.Fault.{Fault}
use Rattle.command_line.specs.declared.fault.Fault.TheVariants.{BadValue, CannotWriteOutput, NoMemory as MemoryRanOut}
use Rattle.command_line.specs.declared.option_name.OptionName.TheVariants as option
use Rattle.command_words.specs.Values.{value_of, given_value}
use Rattle.log_grammar.specs.Books.{accounts_in}
use Rattle.log_grammar.specs.Versions.{any_version}
use Rattle.log_report.specs.RowsBefore.{AreRowsBefore}
use Rattle.log_report.specs.RowTexts.{name_of_event, event_word, rows_text}
use Rattle.log_report.specs.Rows.{IsReportOf}
use Rattle.log_report.specs.declared.event_name.EventName.{EventName}
use Rattle.log_report.specs.Row.{Row}
use Rattle.sasl_log.specs.Answers.{IsAnswer}
use Rattle.sasl_log.specs.Source.{SourceFacts}
use Rattle.sasl_log.specs.declared.auditor.count.Clean.{Clean}
use Rattle.sasl_log.specs.declared.auditor.why.AuditFault.{AuditFault}
use Rattle.sasl_log.specs.declared.auditor.why.AuditFault.TheVariants.{NoMemory}
use Rattle.command_io.specs.File.{IsFileUnreadOrNoMemory}
use Rattle.command_io.specs.HeldBook.{IsReadBook}
use Rattle.commands.specs.Audit.{log_status, printed_audit, CannotReadBook}

-- the row is of the account of this name
abbrev pub is_of_account : Row → (name : List ℕ) → Bool
is_of_account row name = option_map_or (λ account. bytes_eq account name) row.account false

-- the row is of the kind of event with this word
abbrev pub is_of_event : Row → (word : List ℕ) → Bool
is_of_event row word = bytes_eq (event_word (name_of_event row.event)) word

-- the words ask for this row: those of an account, or of a kind of event, if they name one; else all
abbrev pub is_asked : ArgMatches → Row → Bool
is_asked words row = option_map_or (is_of_account row) (value_of words option.Account) true
    && option_map_or (is_of_event row) (value_of words option.Event) true

-- the texts of the rows that the words ask for
abbrev pub printed_rows : ArgMatches → List Row → List ℕ
printed_rows words rows = rows_text (filter (is_asked words) rows)

-- the value of `--account`, if there is one, is a name that an account may have, and that of `--event` a word for a kind of event
pub record AreRowOptions (words : ArgMatches) : Type 0 where
  pub account : ForSome (value_of words option.Account) IsPlainName
  pub event : ForSome (value_of words option.Event) (λ text. (name : EventName) × (text ≡ event_word name))

-- the log in a file is judged by a book that was read from a file. The rows of its lines are printed, as the words ask for them, up to what
-- the answer names, and then the answer, which is not that memory ran out, and which determines the exit status.
pub record PrintsReport {File : Type 0} (bytes_of : File → Option (List ℕ)) (words : ArgMatches) (status : ℕ)
    (old new : Option (List ℕ)) : Type 0 where
  pub are_good : AreRowOptions words
  pub text : List ℕ
  pub book : BookFields
  pub is_read : IsReadBook bytes_of text book
  pub log_file : File
  pub answer : Result Clean AuditFault
  -- what the audit left of the log, and whether a read of it has failed
  pub next : SourceFacts
  pub is_audit : (bytes : List ℕ) → bytes_of log_file ≡ Some bytes → IsAnswer (accounts_in book) bytes next answer
  pub rows : List Row
  pub are_rows : AreRowsBefore book (bytes_of log_file) answer next rows
  pub had_memory : answer ≢ Err NoMemory
  pub is_status : status ≡ log_status answer
  pub printed : Appends old new (printed_rows words rows ++ printed_audit answer)

-- the fault is that a value is given for `--account`, which is no name of an account
abbrev pub RefusesAccount : (given : Option (List ℕ)) → Fault → Type 0
RefusesAccount given fault =
    (text : List ℕ) × (given ≡ Some text) × Refuses option.Account text × (fault ≡ BadValue option.Account)

-- the fault is that a value is given for `--event`, which is no word for a kind of event
abbrev pub RefusesEvent : (given : Option (List ℕ)) → Fault → Type 0
RefusesEvent given fault =
    (text : List ℕ) × (given ≡ Some text) × ((name : EventName) → text ≢ event_word name) × (fault ≡ BadValue option.Event)

-- the fault is that the value of `--account` is no name of an account, or that of `--event` no word for a kind of event
abbrev pub RefusesRowOptions : ArgMatches → Fault → Type 0
RefusesRowOptions words fault = RefusesAccount (value_of words option.Account) fault ⊎ RefusesEvent (value_of words option.Event) fault

-- these are the rows of the first lines of a log, of which more may have been read
abbrev pub AreFirstRows : BookFields → (log : Option (List ℕ)) → List Row → Type 0
AreFirstRows book log rows = (texts : List (List ℕ)) × (more : List ℕ) × (left : Option (List ℕ))
    × Consumes log left (ended_by_lf texts ++ more) × (any_version (accounts_in book)).MayBegin texts × IsReportOf book texts rows

-- rows of the first lines of a log in a file were printed, by this book
pub record PrintsFirstRows {File : Type 0} (bytes_of : File → Option (List ℕ)) (words : ArgMatches) (book : BookFields)
    (old new : Option (List ℕ)) : Type 0 where
  pub log_file : File
  pub rows : List Row
  pub are_rows : AreFirstRows book (bytes_of log_file) rows
  pub printed : Appends old new (printed_rows words rows)

-- a book was read from a file, and of it this holds
abbrev pub OfReadBook : {File : Type 0} → (bytes_of : File → Option (List ℕ)) → (Holds : BookFields → Type 0) → Type 0
OfReadBook bytes_of Holds = (text : List ℕ) × (book : BookFields) × IsReadBook bytes_of text book × Holds book

-- the fault with which `report` ends before it reads the log: the book is not read; or it is, and the log is not opened, or memory ran out
abbrev pub CannotBegin : {File : Type 0} → (bytes_of : File → Option (List ℕ)) → ArgMatches → Fault → Type 0
CannotBegin bytes_of words fault = CannotReadBook bytes_of (given_value words option.Book) fault
    ⊎ OfReadBook bytes_of (λ book. IsFileUnreadOrNoMemory (given_value words option.Log) fault)

-- a fault ends a report that has begun: the output can't be written; or memory ran out, after rows of the log's first lines were printed
abbrev pub StopsPrinting : {File : Type 0} → (bytes_of : File → Option (List ℕ)) → ArgMatches → Fault → (old new : Option (List ℕ))
    → Type 0
StopsPrinting bytes_of words fault old new = OfReadBook bytes_of
    (λ book. (fault ≡ CannotWriteOutput) ⊎ ((fault ≡ MemoryRanOut) × PrintsFirstRows bytes_of words book old new))

-- a fault ends `report`. Nothing was printed, and a value is refused, the book is not read, or the log is not opened; or a report that has
-- begun ends.
abbrev pub StopsReport : {File : Type 0} → (bytes_of : File → Option (List ℕ)) → ArgMatches → Fault → (old new : Option (List ℕ)) → Type 0
StopsReport bytes_of words fault old new =
    ((new ≡ old) × (RefusesRowOptions words fault ⊎ CannotBegin bytes_of words fault)) ⊎ StopsPrinting bytes_of words fault old new
