-- The laws of numbered lines: a text is one or none, a line without a number is none, the text of one has no LF and is not too
-- long, and a number, a space and a text are one if and only if the text is a line that may have a number.
use Rattle.std.specs.Prelude.{ℕ, ◌≡◌, ◌≤◌, ◌⊎◌, ◌↔◌, List, ◌∷◌, ◌++◌, length, decimal}
use Rattle.std.specs.Str.{byte}
use Rattle.scram_text.specs.SplitLines.{LacksLf}
use Rattle.log_grammar.specs.Lines.{LogLine, IsLogLine}
use Rattle.log_grammar.specs.Numbered.{Numbered, numbered}
use Rattle.log_grammar.specs.NumberedLines.{IsSessionNumber, IsNoFirstLine, max_numbered_line_len, IsNumberedLine, IsNoNumberedLine}

-- each text is one numbered line or none
abbrev pub IsOneNumberedLineOrNone : Type 0
IsOneNumberedLineOrNone = (text : List ℕ)
    → ((x : Numbered LogLine) × IsNumberedLine text x × ((other : Numbered LogLine) → IsNumberedLine text other → other ≡ x))
    ⊎ IsNoNumberedLine text

-- a line of a log without a number is no numbered line
abbrev pub UnnumberedLinesAreNone : Type 0
UnnumberedLinesAreNone = (text : List ℕ) (line : LogLine) → IsLogLine text line → IsNoNumberedLine text

-- the text of a numbered line has no LF and is not too long
abbrev pub NumberedLinesLackLf : Type 0
NumberedLinesLackLf = (text : List ℕ) (x : Numbered LogLine) → IsNumberedLine text x
    → LacksLf text × (length text ≤ max_numbered_line_len)

-- a number in its range, a space and a text are a numbered line, with this number, if and only if the text is a line that may have a number
abbrev pub NumbersGoBeforeLines : Type 0
NumbersGoBeforeLines = (n : ℕ) (text : List ℕ) → IsSessionNumber n
    → ((line : LogLine) → IsNoFirstLine line → IsLogLine text line ↔ IsNumberedLine (decimal n ++ (byte " " ∷ text)) (numbered n line))
    × ((x : Numbered LogLine) → IsNumberedLine (decimal n ++ (byte " " ∷ text)) x → x.number ≡ n)
