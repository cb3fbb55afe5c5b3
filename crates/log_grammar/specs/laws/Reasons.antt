-- What the reason for a fault says: the line that it names as due may stand instead of the one at fault; and it follows from the
-- lines up to that one, whatever comes after them.
use Rattle.std.specs.Prelude.{ℕ, ◌≡◌, ◌≤◌, ◌+◌, List, [], ◌∷◌, ◌++◌, length}
use Rattle.std.specs.declared.option.Option.{Option}
use Rattle.std.specs.declared.option.Option.TheVariants.{Some}
use Rattle.otp_core.specs.Attempt.{Attempt, CodeTexts}
use Rattle.otp_core.specs.Ranges.{IsMoment}
use Rattle.otp_core.specs.TokenRanges.{IsInRange}
use Rattle.otp_core.specs.declared.token.reply.Reply.{Reply}
use Rattle.otp_core.specs.declared.token.kinds.TokenFields.{TokenFields}
use Rattle.scram_text.specs.SplitLines.{ended_by_lf, IsSplit}
use Rattle.scram_ends.specs.Login.{IsAuthentic}
use Rattle.log_grammar.specs.Words.{offered_names}
use Rattle.log_grammar.specs.Lines.{LogLine, said, mechs, cont, accepts, refuses, replies, log_line_text, IsReplyInRange, IsLogLineWritable}
use Rattle.log_grammar.specs.Demands.{Accounts, IsReplyDueBy}
use Rattle.log_grammar.specs.laws.FitAccounts.{AllCanBeChallenged}
use Rattle.log_grammar.specs.Why.{Why, is_cut, no_line, out_of_order, other_mechs, other_challenge, other_outcome, other_reply, accepted}
use Rattle.log_grammar.specs.Why.{refused_with}
use Rattle.log_grammar.specs.LogKinds.{IsWhyOf}
use Rattle.log_grammar.specs.VersionOne.{version_one}
use Rattle.log_grammar.specs.Versions.{IsWhy}
use Rattle.log_grammar.specs.laws.LogLaws.{BeginsClean}

-- the line says what a reason names as due: the names of the two mechanisms; a challenge; an `S OK` with the signature,
-- or the `S NO` with the message; the reply, at the moment of the line at fault
abbrev pub SaysWhatIsDue : Why → LogLine → Type 0
SaysWhatIsDue is_cut line = ⊥
SaysWhatIsDue no_line line = ⊥
SaysWhatIsDue out_of_order line = ⊥
SaysWhatIsDue other_mechs line = line ≡ said (mechs offered_names)
SaysWhatIsDue other_challenge line = (text : List ℕ) × (line ≡ said (cont text))
SaysWhatIsDue (other_outcome (accepted signature)) line = (text : List ℕ) × IsAuthentic text signature × (line ≡ said (accepts text))
SaysWhatIsDue (other_outcome (refused_with message)) line = line ≡ said (refuses message)
SaysWhatIsDue (other_reply moment due) line = line ≡ said (replies moment due)

-- the reason names what is due, and a line can say it: a counter that passes can be written if it is in its range
abbrev pub NamesWhatIsDue : Why → Type 0
NamesWhatIsDue is_cut = ⊥
NamesWhatIsDue no_line = ⊥
NamesWhatIsDue out_of_order = ⊥
NamesWhatIsDue other_mechs = Unit {0}
NamesWhatIsDue other_challenge = Unit {0}
NamesWhatIsDue (other_outcome due) = Unit {0}
NamesWhatIsDue (other_reply moment due) = IsReplyInRange due

-- the reply that is due for a token in its ranges has a counter in its own range
abbrev pub DueRepliesCanBeWritten : Type 0
DueRepliesCanBeWritten = (token : TokenFields) (attempts : List Attempt) (moment : ℕ) (sent : CodeTexts) (due : Option Reply)
    → IsInRange token → IsMoment moment → IsReplyDueBy (Some token) attempts moment sent due → IsReplyInRange due

-- line k is one of the texts; and if it is replaced by a line that says what the reason names as due, the first k lines begin a clean log
pub record HasLineThatMayStand (accounts : Accounts) (texts : List (List ℕ)) (k : ℕ) (why : Why) : Type 0 where
  pub before : List (List ℕ)
  pub text : List ℕ
  pub more : List (List ℕ)
  pub split : texts ≡ before ++ text ∷ more
  pub this : k ≡ length before + 1
  pub line : LogLine
  pub says : SaysWhatIsDue why line
  pub writable : IsLogLineWritable line
  pub begins : BeginsClean accounts (ended_by_lf (before ++ log_line_text line ∷ []))

-- what a reason names as due may stand instead of the line at fault, in a log of version 1
abbrev pub WhatIsDueMayStand : Type 0
WhatIsDueMayStand = (accounts : Accounts) → AllCanBeChallenged accounts
    → (bytes : List ℕ) (texts : List (List ℕ)) (rest : List ℕ) (k : ℕ) (why : Why)
    → IsSplit bytes texts rest → IsWhyOf (version_one accounts) bytes k why → NamesWhatIsDue why → HasLineThatMayStand accounts texts k why

-- any line that can be written and says what is due may stand there, except a challenge, since the reason does not name its text
abbrev pub EachLineThatIsDueMayStand : Type 0
EachLineThatIsDueMayStand = (accounts : Accounts) → AllCanBeChallenged accounts
    → (bytes : List ℕ) (before : List (List ℕ)) (text : List ℕ) (more : List (List ℕ)) (rest : List ℕ) (why : Why) (line : LogLine)
    → IsSplit bytes (before ++ text ∷ more) rest → IsWhyOf (version_one accounts) bytes (length before + 1) why
    → (why ≡ other_challenge → ⊥)
    → SaysWhatIsDue why line → IsLogLineWritable line → BeginsClean accounts (ended_by_lf (before ++ log_line_text line ∷ []))

-- if a whole line is at fault, it is at fault for the same reason in any bytes that begin with the same lines
abbrev pub FaultsHoldWhateverFollows : Type 0
FaultsHoldWhateverFollows =
    (accounts : Accounts) (bytes other : List ℕ) (texts more others : List (List ℕ)) (rest also : List ℕ) (k : ℕ) (why : Why)
    → IsSplit bytes (texts ++ more) rest → IsSplit other (texts ++ others) also → k ≤ length texts
    → IsWhy accounts bytes k why → IsWhy accounts other k why
