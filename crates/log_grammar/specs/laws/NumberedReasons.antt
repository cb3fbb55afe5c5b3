-- What the reason for a fault says about a log of version 2: the line that it names as due may stand instead of the one at fault,
-- under the same number.
use Rattle.std.specs.Prelude.{ℕ, ◌≡◌, ◌+◌, List, [], ◌∷◌, ◌++◌, length}
use Rattle.scram_text.specs.SplitLines.{ended_by_lf, IsSplit}
use Rattle.log_grammar.specs.Lines.{LogLine}
use Rattle.log_grammar.specs.Demands.{Accounts}
use Rattle.log_grammar.specs.laws.FitAccounts.{AllCanBeChallenged}
use Rattle.log_grammar.specs.Why.{Why, other_challenge}
use Rattle.log_grammar.specs.LogKinds.{IsWhyOf}
use Rattle.log_grammar.specs.laws.KindLaws.{BeginsCleanOf}
use Rattle.log_grammar.specs.VersionTwo.{version_two}
use Rattle.log_grammar.specs.Numbered.{Numbered, numbered}
use Rattle.log_grammar.specs.NumberedLines.{numbered_text, IsNumberedLine, IsNumberedLineWritable}
use Rattle.log_grammar.specs.laws.Reasons.{SaysWhatIsDue, NamesWhatIsDue}

-- line k is one of the texts, and a line of some number; and if it is replaced by a line of this number that says what the reason
-- names as due, the first k lines begin a clean log
pub record HasNumberedLineThatMayStand (limit : ℕ) (accounts : Accounts) (texts : List (List ℕ)) (k : ℕ) (why : Why) : Type 0 where
  pub before : List (List ℕ)
  pub text : List ℕ
  pub more : List (List ℕ)
  pub split : texts ≡ before ++ text ∷ more
  pub this : k ≡ length before + 1
  pub at_fault : Numbered LogLine
  pub is_line : IsNumberedLine text at_fault
  pub line : LogLine
  pub says : SaysWhatIsDue why line
  pub writable : IsNumberedLineWritable (numbered at_fault.number line)
  pub begins : BeginsCleanOf (version_two limit accounts) (ended_by_lf (before ++ numbered_text (numbered at_fault.number line) ∷ []))

-- what a reason names as due may stand instead of the line at fault, under its number
abbrev pub WhatIsDueMayStandUnderItsNumber : Type 0
WhatIsDueMayStandUnderItsNumber = (limit : ℕ) (accounts : Accounts) → AllCanBeChallenged accounts
    → (bytes : List ℕ) (texts : List (List ℕ)) (rest : List ℕ) (k : ℕ) (why : Why)
    → IsSplit bytes texts rest → IsWhyOf (version_two limit accounts) bytes k why → NamesWhatIsDue why
    → HasNumberedLineThatMayStand limit accounts texts k why

-- any line that can be written and says what is due may stand there, except a challenge, since the reason does not name its text
abbrev pub EachNumberedLineThatIsDueMayStand : Type 0
EachNumberedLineThatIsDueMayStand = (limit : ℕ) (accounts : Accounts) → AllCanBeChallenged accounts
    → (bytes : List ℕ) (before : List (List ℕ)) (text : List ℕ) (more : List (List ℕ)) (rest : List ℕ) (why : Why)
    (at_fault : Numbered LogLine) (line : LogLine)
    → IsSplit bytes (before ++ text ∷ more) rest → IsWhyOf (version_two limit accounts) bytes (length before + 1) why
    → (why ≡ other_challenge → ⊥)
    → IsNumberedLine text at_fault → SaysWhatIsDue why line → IsNumberedLineWritable (numbered at_fault.number line)
    → BeginsCleanOf (version_two limit accounts) (ended_by_lf (before ++ numbered_text (numbered at_fault.number line) ∷ []))
