-- What a run of the program does: the command that its words name, and the exit status that goes with the command's answer.
use Rattle.std.specs.Prelude.{ℕ, ◌≡◌, ◌⊎◌, Bool, true, false, List, [], MatchResult}
use Rattle.std.specs.Io.KnownBytes.{Appends, Keeps}
use Rattle.std.specs.declared.option.Option.{Option}
use Rattle.std.specs.declared.option.Option.TheVariants.{Some}
use Rattle.std.specs.declared.result.Result.{Result}
use Rattle.std.specs.declared.result.Result.TheVariants.{Err, Ok}
use Rattle.clap.specs.Words.{IsAmong, Row, Text, fault_of, found_of, rows_of, subcommand_of}
use Rattle.clap.specs.declared.error.kind.ErrorKind.{ErrorKind}
use Rattle.clap.specs.declared.error.kind.ErrorKind.TheVariants as kind
use Rattle.clap.specs.declared.parser.matches.ArgMatches.{ArgMatches}
use Rattle.command_line.specs.Fault.{status_of}
use Rattle.command_line.specs.declared.fault.Fault.{Fault}
use Rattle.command_line.specs.declared.fault.Fault.TheVariants.{CannotWriteOutput}
use Rattle.command_words.specs.Commands.CommandName.{Keys, Enrol, Code, Verify, Unlock, Login, Hall, Audit, Report, Upgrade}
use Rattle.command_words.specs.Commands.{CommandName, program, word_of}
use Rattle.command_io.specs.Printed.{PrintsNothingUnlessOutputFailed}
use Rattle.account_commands.specs.Code.{CannotPrintCode, PrintsCodeAsked}
use Rattle.account_commands.specs.Enrol.{CannotEnrol, EnrolsAsked}
use Rattle.account_commands.specs.Keys.{CannotPrintKeys, PrintsKeysAsked}
use Rattle.account_commands.specs.Unlock.{CannotUnlock, UnlocksAsked}
use Rattle.commands.specs.Audit.{CannotAudit, PrintsAudit}
use Rattle.commands.specs.Report.{PrintsReport, StopsReport}
use Rattle.commands.specs.Upgrade.{CannotUpgrade, PrintsUpgrade}
use Rattle.commands.specs.Hall.{RunsHall, StopsHall}
use Rattle.commands.specs.LoginFaults.{StopsLogin}
use Rattle.commands.specs.Login.{RunsLogin}
use Rattle.commands.specs.Verify.{CannotBeginToVerify, VerifiesAllLines, VerifiesFirstLines}

-- the exit status of an answer: 0 for yes, 1 for no
abbrev pub answer_status : Bool → ℕ
answer_status true = 0
answer_status false = 1

-- the exit status of a command that has ended with a status, or with a fault
abbrev pub exit_status : Result ℕ Fault → ℕ
exit_status (Ok status) = status
exit_status (Err fault) = status_of fault

-- the words of a command line name this command, and give these values for its options
abbrev pub Names : (found : Option (Text × List Row)) → CommandName → ArgMatches → Type 0
Names found name words = found ≡ Some (word_of name, rows_of (found_of words))

-- a text is printed, with status 0; or the status is 3
abbrev pub PrintsText : (status : ℕ) → (old new : Option (List ℕ)) → Type 0
PrintsText status old new = ((status ≡ 0) × ((text : List ℕ) × Appends old new text)) ⊎ (status ≡ 3)

-- what is done about an error of this kind in the words of a command line: if memory ran out, the status is 3; if help or the
-- version is asked for, a text is printed, with status 0, or 3 if that fails; for any other the status is 2 or 3. If neither help
-- nor the version is asked for, nothing is printed.
abbrev pub Explains : ErrorKind → (status : ℕ) → (old new : Option (List ℕ)) → Type 0
Explains kind.OutOfMemory status old new = (status ≡ 3) × (new ≡ old)
Explains kind.DisplayHelp status old new = PrintsText status old new
Explains kind.DisplayVersion status old new = PrintsText status old new
Explains other status old new = ((status ≡ 2) ⊎ (status ≡ 3)) × (new ≡ old)

-- what a command line names, as clap reads it: a command, and the values of its options
abbrev pub found_in : (line : List Text) → Option (Text × List Row)
found_in line = subcommand_of program line

-- the kind of an error that clap may give for a command line: that memory ran out, or one that `fault_of` finds in the line
abbrev pub IsWordsError : (line : List Text) → ErrorKind → Type 0
IsWordsError line error = (error ≡ kind.OutOfMemory) ⊎ IsAmong error (fault_of program line)

-- what a run does, given the bytes of files and those written to them
module _ {File : Type 0} (bytes_of written_to : File → Option (List ℕ)) where
  -- what a command has done for its words if it ends with this status: `verify` and `login` with that of their answer, `audit`,
  -- `report` and `upgrade` with that of a log, and the others with 0. Which files are read is not said (`specs/Text.antt` of `book_file`).
  abbrev pub HasDone : CommandName → ArgMatches → (status : ℕ) → (input old new : Option (List ℕ)) → Type 0
  HasDone Keys words status input old new = (status ≡ 0) × PrintsKeysAsked words input old new
  HasDone Enrol words status input old new = (status ≡ 0) × EnrolsAsked bytes_of written_to words input old new
  HasDone Code words status input old new = (status ≡ 0) × PrintsCodeAsked words old new
  HasDone Verify words status input old new =
      (passed : Bool) × (status ≡ answer_status passed) × VerifiesAllLines bytes_of written_to words input old passed new
  HasDone Unlock words status input old new = (status ≡ 0) × UnlocksAsked bytes_of written_to words old new
  HasDone Login words status input old new = (passed : Bool) × (status ≡ answer_status passed)
      × RunsLogin bytes_of written_to words input old passed new
  HasDone Hall words status input old new = (status ≡ 0) × RunsHall bytes_of written_to input [] old new
  HasDone Audit words status input old new = PrintsAudit bytes_of status old new
  HasDone Report words status input old new = PrintsReport bytes_of words status old new
  HasDone Upgrade words status input old new = PrintsUpgrade bytes_of status old new

  -- what a command has printed if it ends with this fault: nothing, or what its first lines or events ask for; and why it ends
  abbrev pub StopsAt : CommandName → ArgMatches → Fault → (input old new : Option (List ℕ)) → Type 0
  StopsAt Verify words fault input old new =
      (CannotBeginToVerify bytes_of words fault × (new ≡ old)) ⊎ VerifiesFirstLines bytes_of written_to words input old fault new
  StopsAt Login words fault input old new = StopsLogin bytes_of written_to words fault input old new
  StopsAt Hall words fault input old new = StopsHall bytes_of written_to words fault input old new
  StopsAt Report words fault input old new = StopsReport bytes_of words fault old new
  StopsAt Keys words fault input old new = PrintsNothingUnlessOutputFailed fault old new × CannotPrintKeys words input fault
  StopsAt Code words fault input old new = PrintsNothingUnlessOutputFailed fault old new × CannotPrintCode words fault
  StopsAt Enrol words fault input old new = PrintsNothingUnlessOutputFailed fault old new × CannotEnrol bytes_of words input fault
  StopsAt Unlock words fault input old new = PrintsNothingUnlessOutputFailed fault old new × CannotUnlock bytes_of words fault
  StopsAt Audit words fault input old new = PrintsNothingUnlessOutputFailed fault old new × CannotAudit bytes_of words fault
  StopsAt Upgrade words fault input old new = PrintsNothingUnlessOutputFailed fault old new × CannotUpgrade words fault

  -- the command that the words name has run, and ends with this status; what it printed is in the output
  pub record RunsCommand (found : Option (Text × List Row)) (status : ℕ) (input old new : Option (List ℕ)) : Type 0 where
    pub name : CommandName
    pub words : ArgMatches
    pub is_named : Names found name words
    pub printed : Option (List ℕ)
    pub has_done : HasDone name words status input old printed
    pub kept : Keeps printed new

  -- the command that the words name has run, and ends with this fault
  pub record RunsUntil (found : Option (Text × List Row)) (fault : Fault) (input old new : Option (List ℕ)) : Type 0 where
    pub name : CommandName
    pub words : ArgMatches
    pub is_named : Names found name words
    pub stops : StopsAt name words fault input old new

  -- the command that the words name has ended, before its output is flushed: it has run, with this status or up to this fault
  abbrev pub EndsBeforeFlush : (found : Option (Text × List Row)) → (ended : Result ℕ Fault) → (input old new : Option (List ℕ)) → Type 0
  EndsBeforeFlush found ended input old new =
      MatchResult ended (λ status. RunsCommand found status input old new) (λ fault. RunsUntil found fault input old new)

  -- the command that the words name has run, and its output, which holds what it printed, can't be flushed: that is the fault
  abbrev pub RunsUnflushed : (found : Option (Text × List Row)) → Fault → (input old new : Option (List ℕ)) → Type 0
  RunsUnflushed found fault input old new = (fault ≡ CannotWriteOutput) × ((status : ℕ) × RunsCommand found status input old new)

  -- the command that the words name has ended: it has run, with this status or up to this fault; or it has run, and the fault is that
  -- its output can't be flushed
  abbrev pub EndsCommand : (found : Option (Text × List Row)) → (ended : Result ℕ Fault) → (input old new : Option (List ℕ)) → Type 0
  EndsCommand found ended input old new =
      MatchResult ended (λ status. RunsCommand found status input old new)
      (λ fault. RunsUntil found fault input old new ⊎ RunsUnflushed found fault input old new)

  -- a run ends: nothing is wrong with the command line, and the command that it names has run, with this exit status; or what is
  -- wrong with the line is reported
  abbrev pub EndsRun : (line : List Text) → (status : ℕ) → (input old new : Option (List ℕ)) → Type 0
  EndsRun line status input old new =
      ((fault_of program line ≡ [])
      × ((ended : Result ℕ Fault) × (status ≡ exit_status ended) × EndsCommand (found_in line) ended input old new))
      ⊎ ((error : ErrorKind) × IsWordsError line error × Explains error status old new)
