-- What an input line of `verify` and of `login` says, and what a client sends for it and receives.
use Rattle.std.specs.Prelude.{ℕ, ◌≡◌, ◌+◌, ◌↔◌, Bool, true, List, [], ◌∷◌, ◌++◌, codes, take, IsTrue}
use Rattle.std.specs.Str.{byte}
use Rattle.std.specs.Io.KnownBytes.{Appends}
use Rattle.std.specs.declared.option.Option.{Option}
use Rattle.std.specs.declared.option.Option.TheVariants.{Some}
use Rattle.scram_text.specs.SplitLines.{LacksLf}
use Rattle.log_grammar.specs.Lines.{IsLine, max_line_len, from_server, from_client, replies, sync}
use Rattle.sasl_desk.specs.{CodeTexts, one_text, two_texts, Pass}
use Rattle.command_io.specs.Input.{LinesInTurn}
use Rattle.commands.specs.Talked.{Talked, Receives}

-- a line says two codes in a row if it is a SYNC line of the protocol, and else one code, the line itself
abbrev pub SaysCodes : List ℕ → CodeTexts → Type 0
SaysCodes line (two_texts first second) = IsLine line (from_client (sync first second))
SaysCodes line (one_text text) = (text ≡ line) × ((first second : List ℕ) → IsLine line (from_client (sync first second)) → ⊥)

-- what is sent for an input line, by what the line says: the line itself if it is two codes in a row; else `CODE ` and at most the
-- first 6201 bytes of the line. A line with more is too long either way.
abbrev pub sent_for : List ℕ → CodeTexts → List ℕ
sent_for line (two_texts first second) = line ++ byte "\n" ∷ []
sent_for line (one_text text) = codes "CODE " ++ (take (max_line_len + 1) line ++ byte "\n" ∷ [])

-- the server says that a code has passed
abbrev pub IsPassLine : List ℕ → Type 0
IsPassLine line = (moment counter : ℕ) × IsLine line (from_server (replies moment (Some (Pass counter))))

-- the client sends what an input line says, one code or two in a row, and receives one line, which is in the log; `passed` says
-- whether that is PASS
pub record SendsLine (line : List ℕ) (old : Talked) (passed : Bool) (new : Talked) : Type 0 where
  pub texts : CodeTexts
  pub says : SaysCodes line texts
  pub sent : Appends old.said new.said (sent_for line texts)
  pub reply : List ℕ
  pub is_line : LacksLf reply
  pub received : Receives old new (reply ++ byte "\n" ∷ [])
  pub is_pass : IsTrue passed ↔ IsPassLine reply

-- the client sends the lines of its input in turn; `all_passed` says whether each line that it sends passes. If each does, it sends all.
abbrev pub SendsCodes : (input : Option (List ℕ)) → (old : Talked) → (all_passed : Bool) → (new : Talked) → Type 0
SendsCodes input old all_passed new =
    (last : List (List ℕ)) × LinesInTurn SendsLine input last old all_passed new × (all_passed ≡ true → last ≡ [])
