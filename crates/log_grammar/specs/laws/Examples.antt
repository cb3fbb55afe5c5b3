-- The first lines of logs, by their texts.
use Rattle.std.specs.Prelude.{ℕ, List, [], ◌∷◌, codes}
use Rattle.std.specs.List.{AllByRecursion, AllZip}
use Rattle.scram_text.specs.SplitLines.{LacksLf, ended_by_lf}
use Rattle.log_grammar.specs.Lines.{LogLine, IsLogLine}

-- the first line
abbrev pub header_one_text : List ℕ
header_one_text = codes "SCRAMLOG 1"

-- the first line of a session
abbrev pub offer_text : List ℕ
offer_text = codes "S MECHS SCRAM-SHA-256 SCRAM-SHA-1"

-- a log of only the first line
abbrev pub first_alone : List ℕ
first_alone = ended_by_lf (header_one_text ∷ [])

-- the texts are these lines, with no LF in them
abbrev pub AreWhole : List (List ℕ) → List LogLine → Type 0
AreWhole texts log = AllZip IsLogLine texts log × AllByRecursion LacksLf texts
