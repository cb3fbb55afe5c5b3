-- One run of the program, in terms of the command that it runs.
use Rattle.std.proofs.Common.{◌≡◌, ◌≢◌, ◌∙◌, inl, ℕ, List, [], Option, refl, sym, subst, ap}
use Rattle.std.specs.Prelude.{Some, None, Ok, Err, Box, true, codes, option_map, IfErr, IfOk, MatchResult}
use Rattle.std.specs.Box.{box_value}
use Rattle.std.specs.declared.result.Result.{Result}
use Rattle.std.proofs.KnownBytes.{Keeps-refl}
use Rattle.clap.specs.Words.{App, HasKind, HasMatchesOf, Row, Text, fault_of, found_of, is_simple, is_simple_and_free, kind_of, rows_of}
use Rattle.clap.specs.Words.{subcommand_name_of, subcommand_of, subcommand_rows, subcommand_rows_of}
use Rattle.clap.specs.declared.error.Error.{Error}
use Rattle.clap.specs.declared.parser.matches.ArgMatches.{ArgMatches}
use Rattle.clap.specs.declared.parser.matches.ArgMatches.TheViews.{out-ArgMatches, out-SubCommand}
use Rattle.clap.specs.declared.parser.matches.SubCommand.{SubCommand}
use Rattle.clap.proofs.OnLiterals.{clap_on_literals}
use Rattle.command_line.specs.declared.fault.Fault.{Fault}
use Rattle.command_words.specs.Commands.CommandName.{Keys, Enrol, Code, Verify, Unlock, Login, Hall, Audit, Report, Upgrade}
use Rattle.command_words.specs.Commands.{CommandName, NamesCommand, program, word_of}
use Rattle.command_words.proofs.lemmas.Naming.{faultless_line_names_command}
use Rattle.commands.specs.Program.{EndsBeforeFlush, EndsCommand, EndsRun, HasDone, IsWordsError, Names, RunsCommand, RunsUntil, StopsAt, exit_status, found_in}

-- what follows from the facts known about a command's answer and about its fault is true when the command ends
command_ends_as_known : {T : Type 0} {P : T → Type 0} {S : Fault → Type 0} (Q : T → Type 0) (R : Fault → Type 0)
    (ended : Result T Fault)
    → IfOk ended P → IfErr ended S
    → ((x : T) → P x → Q x) → ((fault : Fault) → S fault → R fault) → MatchResult ended Q R
command_ends_as_known Q R (Ok x) did stopped runs stops = runs x did
command_ends_as_known Q R (Err fault) did stopped runs stops = stops fault stopped

-- what follows from the facts known about a command's answer, and about its fault, is true of a result computed from the answer
computed_status_ends_as_known : {T : Type 0} {P : T → Type 0} {S : Fault → Type 0} (Q : ℕ → Type 0) (R : Fault → Type 0) (value : T → ℕ)
    (ended : Result T Fault)
    (result : Result ℕ Fault) → MatchResult ended (λ x. result ≡ Ok (value x)) (λ fault. result ≡ Err fault) → IfOk ended P → IfErr ended S
    → ((x : T) → P x → Q (value x)) → ((fault : Fault) → S fault → R fault) → MatchResult result Q R
computed_status_ends_as_known Q R value (Ok x) result is did stopped runs stops =
    subst (λ (r : Result ℕ Fault). MatchResult r Q R) (sym is) (runs x did)
computed_status_ends_as_known Q R value (Err fault) result is did stopped runs stops =
    subst (λ (r : Result ℕ Fault). MatchResult r Q R) (sym is)
    (stops fault stopped)

-- the subcommand that a parse has entered has this name and these values of its options
entered_subcommand_has_rows : {Z : Type 0} (o : Option (Box SubCommand Z)) (name word : Text) (rows : List Row)
    → Some name ≡ option_map (λ b. (out-SubCommand (box_value b)).name.now) o → Some rows ≡ option_map (λ p. p.1) (subcommand_rows o)
    → name ≡ word → subcommand_rows o ≡ Some (word, rows)
entered_subcommand_has_rows None name word rows is are known = absurd (cc is)
entered_subcommand_has_rows (Some b) name word rows is are known = cc

-- if a parse has entered a subcommand of this name with these option values, they are what the parse finds
parse_finds_named_command : (matches words : ArgMatches) (name word : Text) → Some name ≡ subcommand_name_of matches
    → Some (rows_of (found_of words)) ≡ option_map (λ p. p.1) (subcommand_rows (out-ArgMatches matches).subcommand)
    → name ≡ word → subcommand_rows_of matches ≡ Some (word, rows_of (found_of words))
parse_finds_named_command matches words name word is are known =
    entered_subcommand_has_rows (out-ArgMatches matches).subcommand name word (rows_of (found_of words)) is are known

-- a named command that has done its work is a run of a named command
done_command_has_run : {File : Type 0} {bytes_of written_to : File
    → Option (List ℕ)} {found : Option (Text × List Row)} {status : ℕ} {input old new : Option (List ℕ)}
    (name : CommandName) (words : ArgMatches) → Names found name words → HasDone bytes_of written_to name words status input old new
    → RunsCommand bytes_of written_to found status input old new
done_command_has_run name words is done =
    record { name = name; words = words; is_named = is; printed = _; has_done = done; kept = Keeps-refl _ }

-- a named command that stops with a fault is a run until the fault
stopped_command_has_run : {File : Type 0} {bytes_of written_to : File
    → Option (List ℕ)} {found : Option (Text × List Row)} {fault : Fault} {input old new : Option (List ℕ)}
    (name : CommandName) (words : ArgMatches) → Names found name words → StopsAt bytes_of written_to name words fault input old new
    → RunsUntil bytes_of written_to found fault input old new
stopped_command_has_run name words is stopped = record { name = name; words = words; is_named = is; stops = stopped }

-- a parse has entered the subcommand of this command, with these words
module _ (name : CommandName) (matches words : ArgMatches) (entered : Text) (is_entered : Some entered ≡ subcommand_name_of matches)
    (are_rows : Some (rows_of (found_of words)) ≡ option_map (λ p. p.1) (subcommand_rows (out-ArgMatches matches).subcommand))
    (is_word : entered ≡ word_of name) {File : Type 0} (bytes_of written_to : File → Option (List ℕ))
    (input old new : Option (List ℕ)) where
  -- an entered command is the one that the parse finds
  entered_command_is_named : Names (subcommand_rows_of matches) name words
  entered_command_is_named = parse_finds_named_command matches words entered (word_of name) is_entered are_rows is_word

  -- an entered command whose status is computed from its answer has run with that status, or until its fault
  pub command_with_answer_ends : {T : Type 0} {P : T → Type 0} {S : Fault → Type 0} (value : T → ℕ) (ended : Result T Fault)
      (result : Result ℕ Fault) → MatchResult ended (λ x. result ≡ Ok (value x)) (λ fault. result ≡ Err fault)
      → IfOk ended P → IfErr ended S → ((x : T) → P x → HasDone bytes_of written_to name words (value x) input old new)
      → ((fault : Fault) → S fault → StopsAt bytes_of written_to name words fault input old new)
      → EndsBeforeFlush bytes_of written_to (subcommand_rows_of matches) result input old new
  command_with_answer_ends value ended result is did stopped does stops =
      computed_status_ends_as_known (λ status. RunsCommand bytes_of written_to (subcommand_rows_of matches) status input old new)
      (λ fault. RunsUntil bytes_of written_to (subcommand_rows_of matches) fault input old new) value ended result is did stopped
      (λ x done. done_command_has_run name words entered_command_is_named (does x done))
      (λ fault why. stopped_command_has_run name words entered_command_is_named (stops fault why))

  -- an entered command that returns its status has run with that status, or until its fault
  pub command_with_status_ends : {P : ℕ → Type 0} {S : Fault → Type 0} (ended : Result ℕ Fault) → IfOk ended P → IfErr ended S
      → ((status : ℕ) → P status → HasDone bytes_of written_to name words status input old new)
      → ((fault : Fault) → S fault → StopsAt bytes_of written_to name words fault input old new)
      → EndsBeforeFlush bytes_of written_to (subcommand_rows_of matches) ended input old new
  command_with_status_ends ended did stopped does stops =
      command_ends_as_known (λ status. RunsCommand bytes_of written_to (subcommand_rows_of matches) status input old new)
      (λ fault. RunsUntil bytes_of written_to (subcommand_rows_of matches) fault input old new) ended did stopped
      (λ status done. done_command_has_run name words entered_command_is_named (does status done))
      (λ fault why. stopped_command_has_run name words entered_command_is_named (stops fault why))

-- if no subcommand was entered, no command is found
unentered_finds_no_command : {Z : Type 0} (o : Option (Box SubCommand Z)) (word : Text) (rows : List Row)
    → None ≡ option_map (λ b. (out-SubCommand (box_value b)).name.now) o → subcommand_rows o ≡ Some (word, rows) → ⊥
unentered_finds_no_command None word rows is are = cc
unentered_finds_no_command (Some b) word rows is are = cc

-- a parse that finds a command has entered a subcommand
pub found_command_has_name : (matches : ArgMatches) → NamesCommand (subcommand_rows_of matches) → None ≡ subcommand_name_of matches → ⊥
found_command_has_name matches (name, values, are) is =
    unentered_finds_no_command (out-ArgMatches matches).subcommand (word_of name) values is are

-- the name of the entered subcommand is the word that the parse finds
name_is_word : {Z : Type 0} (o : Option (Box SubCommand Z)) (name word : Text) (rows : List Row)
    → Some name ≡ option_map (λ b. (out-SubCommand (box_value b)).name.now) o → subcommand_rows o ≡ Some (word, rows) → name ≡ word
name_is_word None name word rows is are = absurd (cc is)
name_is_word (Some b) name word rows is are =
    let named : Some (out-SubCommand (box_value b)).name.now ≡ Some word = ap (option_map (λ (p : Text × List Row). p.0)) are in cc

-- no command has this name
abbrev pub IsUnknownName : Text → Type 0
IsUnknownName name =
    (name ≢ codes "keys") × (name ≢ codes "enrol") × (name ≢ codes "code") × (name ≢ codes "verify") × (name ≢ codes "unlock")
    × (name ≢ codes "login") × (name ≢ codes "hall") × (name ≢ codes "audit") × (name ≢ codes "report") × (name ≢ codes "upgrade")

-- a name that no command has is not the word of any command
unknown_name_is_no_word : (name : Text) (command : CommandName) → IsUnknownName name → name ≡ word_of command → ⊥
unknown_name_is_no_word name Keys (keys, enrol, code, verify, unlock, login, hall, audit, report, upgrade) is = keys is
unknown_name_is_no_word name Enrol (keys, enrol, code, verify, unlock, login, hall, audit, report, upgrade) is = enrol is
unknown_name_is_no_word name Code (keys, enrol, code, verify, unlock, login, hall, audit, report, upgrade) is = code is
unknown_name_is_no_word name Verify (keys, enrol, code, verify, unlock, login, hall, audit, report, upgrade) is = verify is
unknown_name_is_no_word name Unlock (keys, enrol, code, verify, unlock, login, hall, audit, report, upgrade) is = unlock is
unknown_name_is_no_word name Login (keys, enrol, code, verify, unlock, login, hall, audit, report, upgrade) is = login is
unknown_name_is_no_word name Hall (keys, enrol, code, verify, unlock, login, hall, audit, report, upgrade) is = hall is
unknown_name_is_no_word name Audit (keys, enrol, code, verify, unlock, login, hall, audit, report, upgrade) is = audit is
unknown_name_is_no_word name Report (keys, enrol, code, verify, unlock, login, hall, audit, report, upgrade) is = report is
unknown_name_is_no_word name Upgrade (keys, enrol, code, verify, unlock, login, hall, audit, report, upgrade) is = upgrade is

-- if a parse finds a command, the subcommand that it has entered has a known command's name
pub found_command_is_known : (matches : ArgMatches) (name : Text) → NamesCommand (subcommand_rows_of matches)
    → Some name ≡ subcommand_name_of matches
    → IsUnknownName name → ⊥
found_command_is_known matches name (command, values, are) is others =
    unknown_name_is_no_word name command others (name_is_word (out-ArgMatches matches).subcommand name (word_of command) values is are)

-- the program's app is simple, in `clap`'s sense
program_is_simple : is_simple program ≡ true
unfolding clap_on_literals
program_is_simple = refl

-- the program's app is simple and free of conflicts, in `clap`'s sense
program_is_free : is_simple_and_free program ≡ true
unfolding clap_on_literals
program_is_free = refl

-- the subcommand and the values that a parse returns are those found in the command line
pub parse_agrees_with_line : (app : App) (line : List Text) (matches : ArgMatches) → app ≡ program → HasMatchesOf app line matches
    → subcommand_rows_of matches ≡ found_in line
parse_agrees_with_line app line matches is has = (has (ap is_simple is ∙ program_is_simple)).1 ∙ ap (λ (a : App). subcommand_of a line) is

-- a line that parses has no fault
pub parsed_line_has_no_fault : (app : App) (line : List Text) → app ≡ program → (is_simple_and_free app ≡ true → fault_of app line ≡ [])
    → fault_of program line ≡ []
parsed_line_has_no_fault app line is fails = sym (ap (λ (a : App). fault_of a line) is) ∙ fails (ap is_simple_and_free is ∙ program_is_free)

-- a line that parses names a command
pub parsed_line_names_command : (app : App) (line : List Text) (matches : ArgMatches) → app ≡ program → HasMatchesOf app line matches
    → (is_simple_and_free app ≡ true → fault_of app line ≡ []) → NamesCommand (subcommand_rows_of matches)
parsed_line_names_command app line matches is has fails =
    subst NamesCommand (sym (parse_agrees_with_line app line matches is has)) (faultless_line_names_command line
    (parsed_line_has_no_fault app line is fails))

-- an error of the parser is an error in the line's words
pub parse_error_is_words_error : (app : App) (line : List Text) (error : Error) → app ≡ program
    → (is_simple_and_free app ≡ true → HasKind (fault_of app line) error)
    → IsWordsError line (kind_of error)
parse_error_is_words_error app line error is fails =
    subst (λ (a : App). HasKind (fault_of a line) error) is (fails (ap is_simple_and_free is ∙ program_is_free))

-- a run ends with the exit status of its command
pub ended_command_ends_run : {File : Type 0} (bytes_of written_to : File → Option (List ℕ)) (found : Option (Text × List Row))
    (line : List Text)
    (ended : Result ℕ Fault)
    (status : ℕ) (input old new : Option (List ℕ)) → found ≡ found_in line → fault_of program line ≡ [] → status ≡ exit_status ended
    → EndsCommand bytes_of written_to found ended input old new → EndsRun bytes_of written_to line status input old new
ended_command_ends_run bytes_of written_to found line ended status input old new is right goes ends =
    inl (right, (ended, goes, subst (λ (f : Option (Text × List Row)). EndsCommand bytes_of written_to f ended input old new) is ends))
