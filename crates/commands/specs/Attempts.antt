-- What a run of `verify` does to its book: each line that it answers is an attempt, and so a change of the book.
use Rattle.std.specs.Prelude.{ℕ, ◌≡◌, ◌⊎◌, Bool, List, [], ◌∷◌, ◌++◌, map, reverse}
use Rattle.std.specs.List.{AllZip, flat_map}
use Rattle.std.specs.Io.KnownBytes.{Appends}
use Rattle.std.specs.declared.option.Option.{Option}
use Rattle.std.specs.declared.option.Option.TheVariants.{Some}
use Rattle.account_book.specs.{BookFields, IsBookText}
use Rattle.account_book.specs.AccountAttempt.{AccountAttempt, account_attempt_of}
use Rattle.account_book.specs.Tokens.{IsBookAttempt, IsBookAfterAttempts}
use Rattle.command_line.specs.declared.fault.Fault.{Fault}
use Rattle.command_line.specs.declared.fault.Fault.TheVariants.{CannotWriteOutput}
use Rattle.sasl_desk.specs.{CodeTexts, Reply}
use Rattle.sasl_desk.specs.Changes.{Change, judged}
use Rattle.command_io.specs.Input.{AreFirstLines, LinesInTurn}
use Rattle.commands.specs.SentCodes.{SaysCodes}
use Rattle.commands.specs.Verify.{printed_reply, VerifyRun, AnswersLine}

-- a line makes this attempt: on the account of this name, at this moment, with what the line says, and with a reply. That the reply is
-- due is in `MakesAttempts`.
abbrev pub MakesAttempt : (name : List ℕ) → (moment : ℕ) → (line : List ℕ) → AccountAttempt → Type 0
MakesAttempt name moment line attempt =
    (sent : CodeTexts) × (reply : Reply) × SaysCodes line sent × (attempt ≡ account_attempt_of name moment sent (Some reply))

-- the lines that are printed for the replies to attempts, in order
abbrev pub printed_replies : List AccountAttempt → List ℕ
printed_replies attempts = flat_map (λ attempt. printed_reply attempt.moment attempt.reply) attempts

-- what is printed when a fault ends a run: the replies to these attempts, or to all but the last of them. If the output can't be written,
-- it is not known what it holds.
abbrev pub PrintsUntil : Fault → List AccountAttempt → (old new : Option (List ℕ)) → Type 0
PrintsUntil fault attempts old new =
    Appends old new (printed_replies attempts)
    ⊎ ((earlier : List AccountAttempt) × (last : AccountAttempt) × (attempts ≡ earlier ++ last ∷ [])
    × ((fault ≡ CannotWriteOutput) ⊎ Appends old new (printed_replies earlier)))

-- the changes of a book that attempts are, the latest first
abbrev pub judged_changes : List AccountAttempt → List Change
judged_changes attempts = map judged (reverse attempts)

-- the first lines of an input, all but these last ones: each made one of these attempts, in order, and the attempts made the old book the
-- new one
pub record MakesAttempts (name : List ℕ) (moment : ℕ) (input : Option (List ℕ)) (last : List (List ℕ)) (attempts : List AccountAttempt)
    (old new : BookFields) : Type 0 where
  pub lines : List (List ℕ)
  pub are : AreFirstLines input lines last
  pub made : AllZip (MakesAttempt name moment) lines attempts
  pub leads : IsBookAfterAttempts old (reverse attempts) new

-- a run of `verify` within a save: it has answered the lines of its input before this one, and the store is given a text of the book with
-- the attempt that this line makes
pub record SavesNextLine (IsStored : List ℕ → Type 0) (name : List ℕ) (moment : ℕ) (input : Option (List ℕ)) (old middle : VerifyRun)
    (asked : List ℕ) : Type 0 where
  pub line : List ℕ
  pub last : List (List ℕ)
  pub all_passed : Bool
  pub answers : LinesInTurn (AnswersLine IsStored name moment) input (line ∷ last) old all_passed middle
  pub attempt : AccountAttempt
  pub made : MakesAttempt name moment line attempt
  pub next : BookFields
  pub judged : IsBookAttempt middle.held.book attempt next
  pub is_text : IsBookText asked next
