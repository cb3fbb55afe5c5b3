-- What the command `verify` prints, what is saved before that, and which faults end it.
use Rattle.std.specs.Prelude.{ℕ, ◌≡◌, ◌⊎◌, Bool, true, false, List, [], ◌∷◌, ◌++◌}
use Rattle.std.specs.Str.{byte}
use Rattle.std.specs.Fmt.{decimal}
use Rattle.std.specs.Io.KnownBytes.{Appends}
use Rattle.std.specs.declared.option.Option.{Option}
use Rattle.std.specs.declared.option.Option.TheVariants.{Some}
use Rattle.clap.specs.declared.parser.matches.ArgMatches.{ArgMatches}
use Rattle.scram_text.specs.Class.{IsPlainName}
use Rattle.account_book.specs.{BookFields}
use Rattle.account_book.specs.Accounts.{account_at}
use Rattle.account_book.specs.Store.{StoreFacts}
use Rattle.command_io.specs.{Keeper}
use Rattle.command_io.specs.HeldBook.{IsTokenFault}
use Rattle.book_file.specs.Saved.{IsSavedText}
use Rattle.command_line.specs.declared.fault.Fault.{Fault}
use Rattle.command_line.specs.declared.fault.Fault.TheVariants.{CannotWriteOutput, NoMemory}
use Rattle.command_line.specs.declared.option_name.OptionName.TheVariants as option
use Rattle.command_words.specs.Values.{given_value, HasBadValue}
use Rattle.log_grammar.specs.Lines.{reply_text}
use Rattle.sasl_desk.specs.{CodeTexts, IsMoment, Reply, Pass, Fail, Locked}
use Rattle.command_io.specs.HeldBook.{HeldFacts, held_shown, IsReadBook, IsReplySaved, IsReplyUnsaved, CannotOpenBook, LacksToken}
use Rattle.command_io.specs.Input.{LinesInTurn, IsInputUnreadOrNoMemory}
use Rattle.commands.specs.SentCodes.{SaysCodes}

-- the reply says that the code, or both codes in a row, passed
abbrev pub is_passed : Reply → Bool
is_passed (Pass counter) = true
is_passed Fail = false
is_passed Locked = false

-- the line that is printed for a reply to a code at a moment
abbrev pub printed_reply : (moment : ℕ) → Option Reply → List ℕ
printed_reply moment reply = reply_text moment reply ++ byte "\n" ∷ []

-- the book that a run of `verify` holds, and what it has printed, if that is known
pub record VerifyRun : Type 0 where
  pub held : HeldFacts
  pub printed : Option (List ℕ)

-- a run of `verify`, from its held book
abbrev pub verify_run_shown : {S : Type 0} → (S → StoreFacts) → Keeper S → Option (List ℕ) → VerifyRun
verify_run_shown facts held printed = record { held = held_shown facts held; printed = printed }

-- the printing of a reply fails: the output can't be written, and what it holds is not known; or memory ran out, and nothing is printed
abbrev pub FailsToPrint : Fault → (old new : Option (List ℕ)) → Type 0
FailsToPrint fault old new = (fault ≡ CannotWriteOutput) ⊎ ((fault ≡ NoMemory) × (new ≡ old))

-- the reply to what a line says is not saved, and nothing is printed: there is no token to judge it by, the book's file, of this path,
-- can't be written, or memory ran out
abbrev pub IsReplyLost : (path name : List ℕ) → (moment : ℕ) → CodeTexts → (old : VerifyRun) → Fault → (new : VerifyRun) → Type 0
IsReplyLost path name moment sent old fault new =
    IsReplyUnsaved old.held name moment sent fault new.held × IsTokenFault path (account_at old.held.book name) fault
    × (new.printed ≡ old.printed)

-- how the lines of an input are answered: `IsStored` is true of each text that is stored
module _ (IsStored : List ℕ → Type 0) where
  -- a reply may be printed: it was due to an attempt at this moment that led to the held book, and that book was saved if the reply
  -- needs it
  abbrev pub MayBePrinted : (moment : ℕ) → Reply → HeldFacts → Type 0
  MayBePrinted moment reply held =
      (before : HeldFacts) × (name : List ℕ) × (sent : CodeTexts) × IsReplySaved IsStored before name moment sent reply held

  -- a line is answered: the reply is due to what it says, what the reply changes is saved, and the reply is printed. If the save fails,
  -- no reply is printed (`IsReplyLost`).
  pub record IsLineAnswered (name : List ℕ) (moment : ℕ) (line : List ℕ) (old : VerifyRun) (reply : Reply) (new : VerifyRun) : Type 0 where
    pub sent : CodeTexts
    pub says : SaysCodes line sent
    pub saved : IsReplySaved IsStored old.held name moment sent reply new.held
    pub printed : Appends old.printed new.printed (printed_reply moment (Some reply))

  -- the reply to what a line says is saved, and its printing fails
  abbrev pub FailsToPrintReply : (name : List ℕ) → (moment : ℕ) → CodeTexts → (old : VerifyRun) → Fault → (new : VerifyRun) → Type 0
  FailsToPrintReply name moment sent old fault new =
      (reply : Reply) × IsReplySaved IsStored old.held name moment sent reply new.held × FailsToPrint fault old.printed new.printed

  -- a fault at a line: the reply to what it says is not saved, or it is saved and its printing fails
  abbrev pub FailsAtLine : (path name : List ℕ) → (moment : ℕ) → (line : List ℕ) → (old : VerifyRun) → Fault → (new : VerifyRun) → Type 0
  FailsAtLine path name moment line old fault new =
      (sent : CodeTexts) × SaysCodes line sent
      × (IsReplyLost path name moment sent old fault new ⊎ FailsToPrintReply name moment sent old fault new)

  -- a line is answered; `passed` says whether its code passed
  abbrev pub AnswersLine : (name : List ℕ) → (moment : ℕ) → (line : List ℕ) → VerifyRun → (passed : Bool) → VerifyRun → Type 0
  AnswersLine name moment line old passed new = (reply : Reply) × IsLineAnswered name moment line old reply new × (passed ≡ is_passed reply)

  -- each line of the input is answered, in order
  abbrev pub AnswersAllLines : (name : List ℕ) → (moment : ℕ) → Option (List ℕ) → VerifyRun → (all_passed : Bool) → VerifyRun → Type 0
  AnswersAllLines name moment input old all_passed new = LinesInTurn (AnswersLine name moment) input [] old all_passed new

  -- the first lines of the input are answered, and then comes a fault: the next line can't be read, or the fault is at that line
  abbrev pub AnswersFirstLines : (path name : List ℕ) → (moment : ℕ) → Option (List ℕ) → (old : VerifyRun) → Fault
      → (new : VerifyRun) → Type 0
  AnswersFirstLines path name moment input old fault new =
      ((last : List (List ℕ)) × (all_passed : Bool) × LinesInTurn (AnswersLine name moment) input last old all_passed new
      × IsInputUnreadOrNoMemory fault)
      ⊎ ((line : List ℕ) × (last : List (List ℕ)) × (all_passed : Bool) × (middle : VerifyRun)
      × LinesInTurn (AnswersLine name moment) input (line ∷ last) old all_passed middle
      × FailsAtLine path name moment line middle fault new)

-- a run of `verify` does not begin: an option refuses its value, the book can't be held or read, a book that was read has no token for
-- the name, or memory ran out
abbrev pub CannotBeginToVerify : {File : Type 0} → (bytes_of : File → Option (List ℕ)) → ArgMatches → Fault → Type 0
CannotBeginToVerify bytes_of words fault =
    HasBadValue (option.Name ∷ option.Moment ∷ []) words fault
    ⊎ (CannotOpenBook bytes_of (given_value words option.Book) fault
    ⊎ ((text : List ℕ) × (book : BookFields) × IsReadBook bytes_of text book
    × LacksToken (account_at book (given_value words option.Name)) fault))

-- a run of `verify` begins, with the name and at the moment that the words give: its book was read from a file, the store has not
-- failed, and this is printed
pub record BeginsToVerify {File : Type 0} (bytes_of : File → Option (List ℕ)) (words : ArgMatches) (printed : Option (List ℕ)) (moment : ℕ)
    (run : VerifyRun) : Type 0 where
  pub name_range : IsPlainName (given_value words option.Name)
  pub is_moment : given_value words option.Moment ≡ decimal moment
  pub moment_range : IsMoment moment
  pub is_book : IsReadBook bytes_of run.held.store.saved run.held.book
  pub working : run.held.store.failed ≡ false
  pub is_printed : run.printed ≡ printed

-- a run, given the bytes of files and those written to them
module _ {File : Type 0} (bytes_of written_to : File → Option (List ℕ)) where
  -- a run begins, and each line of the input is answered by the token of the name that the words give; what a reply changes was
  -- written to a file
  pub record VerifiesAllLines (words : ArgMatches) (input old : Option (List ℕ)) (all_passed : Bool) (new : Option (List ℕ)) : Type 0 where
    pub moment : ℕ
    pub first : VerifyRun
    pub last : VerifyRun
    pub begins : BeginsToVerify bytes_of words old moment first
    pub answers : AnswersAllLines (IsSavedText written_to) (given_value words option.Name) moment input first all_passed last
    pub printed : last.printed ≡ new

  -- a run begins, and the first lines of the input are answered in this way; then comes this fault
  pub record VerifiesFirstLines (words : ArgMatches) (input old : Option (List ℕ)) (fault : Fault) (new : Option (List ℕ)) : Type 0 where
    pub moment : ℕ
    pub first : VerifyRun
    pub last : VerifyRun
    pub begins : BeginsToVerify bytes_of words old moment first
    pub answers : AnswersFirstLines (IsSavedText written_to) (given_value words option.Book) (given_value words option.Name) moment input
        first fault last
    pub printed : last.printed ≡ new
