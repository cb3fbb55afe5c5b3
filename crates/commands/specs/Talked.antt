-- What the client of the command `login` says and receives, and that what it receives is in the log.
use Rattle.std.specs.Prelude.{ℕ, ◌≡◌, List, [], ◌∷◌, ◌++◌}
use Rattle.std.specs.Str.{byte}
use Rattle.std.specs.Io.KnownBytes.{Appends, Consumes}
use Rattle.std.specs.declared.option.Option.{Option}
use Rattle.scram_text.specs.SplitLines.{LacksLf}
use Rattle.log_grammar.specs.Lines.{LogLine, log_bytes}
use Rattle.sasl_log.specs.Sink.{SinkFacts}
use Rattle.sasl_log.specs.Source.{SourceFacts}
use Rattle.sasl_desk.specs.Runs.{wire_bytes}
use Rattle.commands.specs.declared.login.talk.Talk.{Talk}

-- a log takes lines, and these bytes are what the server says in them
pub record LogSays (old new : Option (List ℕ)) (said : List ℕ) : Type 0 where
  pub lines : List LogLine
  pub logged : Appends old new (log_bytes lines)
  pub says : wire_bytes lines ≡ said

-- what is known of a talk between a client and the server
pub record Talked : Type 0 where
  -- what the client has said to the server
  pub said : Option (List ℕ)
  -- what the client has yet to receive
  pub to_receive : Option (List ℕ)
  -- what is in the log
  pub logged : Option (List ℕ)

-- what is known of the client of a talk, from its end of the connection and from the log
abbrev pub talked_shown : {S R W L C : Type 0} → (R → SourceFacts) → (W → SinkFacts) → (L → SinkFacts) → Talk S R W L C → Talked
talked_shown source sink log talk = record {
  said = (sink talk.ends.client.writer).given;
  to_receive = (source talk.ends.client.reader).left;
  logged = (log talk.log).given;
}

-- the client receives these bytes, and they are what the server says in the lines that the log takes meanwhile
pub record Receives (old new : Talked) (bytes : List ℕ) : Type 0 where
  pub received : Consumes old.to_receive new.to_receive bytes
  pub logged : LogSays old.logged new.logged bytes

-- the client has said this, and has received these bytes and then this line
pub record HasTalked (old new : Talked) (before said line : List ℕ) : Type 0 where
  pub sent : Appends old.said new.said said
  pub lacks : LacksLf line
  pub received : Receives old new (before ++ (line ++ byte "\n" ∷ []))
