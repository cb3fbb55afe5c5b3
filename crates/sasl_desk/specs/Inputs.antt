-- What is read from a client in a turn.
use Rattle.std.specs.Prelude.{ℕ, ◌≡◌, List, [], ◌∷◌}
use Rattle.log_grammar.specs.Lines.{max_line_len}
use Rattle.sasl_log.specs.Source.{SourceFacts}
use Rattle.sasl_log.specs.ReadsLineBytes.{ReadsLineBytes}
use Rattle.sasl_log.specs.declared.line_bytes.LineEnd.{LineEnd}
use Rattle.sasl_log.specs.declared.line_bytes.LineEnd.TheVariants.{Lf, EndOfInput, TooLong, ReadFailed}
use Rattle.sasl_desk.specs.Events.{ClientEvent, sends, goes_away}

-- the bytes of a line without its LF, and how they end: with an LF, at the end of the input, at a read that failed, or, if the line
-- is too long, after one byte more than a line may have
pub record LineRead : Type 0 where
  pub text : List ℕ
  pub ended : LineEnd

-- these bytes, which end in this way
abbrev pub line_read : List ℕ → LineEnd → LineRead
line_read text ended = record { text = text; ended = ended }

-- this was read from a source, and nothing after it. It is one of three: a line that is not too long, and its LF; one byte more than a
-- line may have, without an LF; or at most as many bytes as a line may have, without an LF, after which the input ended or a read failed
pub record ReadsLine (old : SourceFacts) (read : LineRead) (new : SourceFacts) : Type 0 where
  pub text_read : ReadsLineBytes max_line_len old read.text read.ended new

-- what a client did whose bytes end in this way: it sent them, even if they are too many, or it has gone away
abbrev pub event_by : List ℕ → LineEnd → ClientEvent
event_by text Lf = sends text
event_by text TooLong = sends text
event_by text EndOfInput = goes_away
event_by text ReadFailed = goes_away

-- what the client did, by what was read from it
abbrev pub event_read : LineRead → ClientEvent
event_read read = event_by read.text read.ended

-- what was read, one after the other
abbrev pub ReadsLines : SourceFacts → List LineRead → SourceFacts → Type 0
ReadsLines old [] new = new ≡ old
ReadsLines old (read ∷ before) new = (middle : SourceFacts) × ReadsLines old before middle × ReadsLine middle read new
