-- How a client is served: its lines are read, the desk answers them, and what the desk writes goes to the log and to the client.
use Rattle.std.specs.Prelude.{ℕ, ◌≡◌, ◌≢◌, ◌⊎◌, ◌<◌, ◌≤◌, true, false, List, [], ◌∷◌, ◌++◌, length, map}
use Rattle.std.specs.Io.KnownBytes.{Appends}
use Rattle.std.specs.List.{AllByRecursion}
use Rattle.std.specs.declared.option.Option.{Option}
use Rattle.account_book.specs.Store.{StoreFacts}
use Rattle.log_grammar.specs.Lines.{LogLine, log_bytes}
use Rattle.sasl_log.specs.Source.{SourceFacts}
use Rattle.sasl_log.specs.Sink.{SinkFacts}
use Rattle.sasl_desk.specs.Bounds.{max_turns}
use Rattle.sasl_desk.specs.Events.{goes_away}
use Rattle.sasl_desk.specs.Inputs.{LineRead, ReadsLine, ReadsLines, event_read}
use Rattle.sasl_desk.specs.Runs.{Request, greets, hears, Call, call_of, call_lines}
use Rattle.sasl_desk.specs.Desks.{AnswersCall, IsSameDesk, desk_phase}
use Rattle.sasl_desk.specs.Outputs.{AreWritten}
use Rattle.sasl_desk.specs.declared.desk.Desk.{Desk}
use Rattle.sasl_desk.specs.declared.session.phase.Phase.TheVariants as phase
use Rattle.sasl_desk.specs.declared.fault.ServeFault.{ServeFault}
use Rattle.sasl_desk.specs.declared.fault.ServeFault.TheVariants.{Halted, Unwritable, NoMemory, WriteFault, LogFault}

-- if the desk has halted, its store has failed
abbrev pub HaltsOnlyByStore : {S : Type 0} → (S → StoreFacts) → Desk S → Type 0
HaltsOnlyByStore facts desk = desk_phase desk ≡ phase.Halted → (facts desk.keeper.store).failed ≡ true

-- a desk that serves a client, and what is known of the client's input, of the wire to it, of the log, and of the moments that the
-- clock gave
pub record Service (S : Type 0) : Type 0 where
  pub desk : Desk S
  pub input : SourceFacts
  pub wire : SinkFacts
  pub log : SinkFacts
  pub given : Option (List ℕ)

-- a service of these parts
abbrev pub service_of : {S : Type 0} → Desk S → (input : SourceFacts) → (wire log : SinkFacts) → (given : Option (List ℕ)) → Service S
service_of desk input wire log given = record { desk = desk; input = input; wire = wire; log = log; given = given }

-- the clock was asked once in between, and gave this moment
abbrev pub IsAskedOnce : {S : Type 0} → (moment : ℕ) → (old new : Service S) → Type 0
IsAskedOnce moment old new = Appends old.given new.given (moment ∷ [])

-- what was read in a turn, its moment, and the lines of the turn
pub record ServedTurn : Type 0 where
  pub read : LineRead
  pub moment : ℕ
  pub lines : List LogLine

-- the call of a turn
abbrev pub call_in : ServedTurn → Call
call_in turn = call_of (hears (event_read turn.read) turn.moment) turn.lines

-- what was read in these turns
abbrev pub reads_in : List ServedTurn → List LineRead
reads_in turns = map (λ turn. turn.read) turns

-- the moments of these turns, in their order
abbrev pub moments_in : List ServedTurn → List ℕ
moments_in [] = []
moments_in (turn ∷ before) = moments_in before ++ (turn.moment ∷ [])

-- the calls of a session: its greeting, with this server's part of the nonce, and its turns
abbrev pub session_calls : (server_nonce : List ℕ) → (greeting : List LogLine) → List ServedTurn → List Call
session_calls server_nonce greeting [] = call_of (greets server_nonce) greeting ∷ []
session_calls server_nonce greeting (turn ∷ before) = call_in turn ∷ session_calls server_nonce greeting before

-- what a desk does for a client: `facts` are those of its store, and `IsStored` is true of each text that is stored
module _ {S : Type 0} (facts : S → StoreFacts) (IsStored : List ℕ → Type 0) where
  -- a desk answered these calls one after another, the latest of which comes first
  abbrev pub AnswersEach : (old : Desk S) → List Call → (new : Desk S) → Type 0
  AnswersEach old [] new = new ≡ old
  AnswersEach old (call ∷ before) new =
      (middle : Desk S) × AnswersEach old before middle × AnswersCall facts IsStored middle call new

  -- the desk answered what it was asked, and its lines were written
  pub record IsDone (request : Request) (old new : Desk S) (wire wire' log log' : SinkFacts) : Type 0 where
    pub lines : List LogLine
    pub answers : AnswersCall facts IsStored old (call_of request lines) new
    pub written : AreWritten lines wire wire' log log'
    pub halts : HaltsOnlyByStore facts new

  -- the desk answered what it was asked, and its lines were logged, but the wire to the client has failed
  pub record IsUnsent (request : Request) (old new : Desk S) (wire' log log' : SinkFacts) : Type 0 where
    pub lines : List LogLine
    pub answers : AnswersCall facts IsStored old (call_of request lines) new
    pub logged : Appends log.given log'.given (log_bytes lines)
    pub log_works : log'.failed ≡ false
    pub wire_fails : wire'.failed ≡ true
    pub halts : HaltsOnlyByStore facts new

  -- the desk answered what it was asked, but the log has failed: then the desk has halted, and nothing was sent
  pub record IsUnlogged (request : Request) (old new : Desk S) (wire wire' log' : SinkFacts) : Type 0 where
    pub lines : List LogLine
    pub answers : AnswersCall facts IsStored old (call_of request lines) new
    pub log_fails : log'.failed ≡ true
    pub halted : desk_phase new ≡ phase.Halted
    pub unsent : wire' ≡ wire

  -- why what a desk was asked is not done, and what is true then. If the desk had halted, or memory ran out, the desk has answered
  -- nothing, and nothing was written.
  abbrev pub IsNotDone : Request → (old new : Desk S) → (wire wire' log log' : SinkFacts) → ServeFault → Type 0
  IsNotDone request old new wire wire' log log' Halted = IsSameDesk old new × (wire' ≡ wire) × (log' ≡ log)
  IsNotDone request old new wire wire' log log' NoMemory = IsSameDesk old new × (wire' ≡ wire) × (log' ≡ log)
  IsNotDone request old new wire wire' log log' Unwritable = ⊥
  IsNotDone request old new wire wire' log log' WriteFault = IsUnsent request old new wire' log log'
  IsNotDone request old new wire wire' log log' LogFault = IsUnlogged request old new wire wire' log'

  -- a turn: one line was read, the clock was asked once, the desk heard the line at this moment and answered it, and the lines were
  -- written
  pub record IsTurnServed (moment : ℕ) (old new : Service S) : Type 0 where
    pub read : LineRead
    pub reads : ReadsLine old.input read new.input
    pub asked : IsAskedOnce moment old new
    pub done : IsDone (hears (event_read read) moment) old.desk new.desk old.wire new.wire old.log new.log

  -- why a turn is not served. If the desk had halted, nothing was read and the clock was not asked; else one line was read, which is lost
  -- if memory ran out, and the clock was asked once.
  abbrev pub IsTurnFault : (moment : ℕ) → (old new : Service S) → ServeFault → Type 0
  IsTurnFault moment old new Halted = new ≡ old
  IsTurnFault moment old new fault =
      (read : LineRead) × ReadsLine old.input read new.input × IsAskedOnce moment old new
      × IsNotDone (hears (event_read read) moment) old.desk new.desk old.wire new.wire old.log new.log fault

  -- the client was not greeted, for this reason
  pub record FailsInGreeting (server_nonce : List ℕ) (old new : Service S) (fault : ServeFault) : Type 0 where
    pub unread : new.input ≡ old.input
    pub unasked : new.given ≡ old.given
    pub undone : IsNotDone (greets server_nonce) old.desk new.desk old.wire new.wire old.log new.log fault

  -- a session from its greeting on: `IsNow` is true of each moment of the clock
  module _ (IsNow : ℕ → Type 0) where
    -- a session up to these turns: its client was greeted, what it sent was read and answered, turn by turn, at a moment of the
    -- clock, which gave these moments and no others, and all lines were written
    pub record IsServedUpTo (server_nonce : List ℕ) (turns : List ServedTurn) (old new : Service S) : Type 0 where
      pub greeting : List LogLine
      pub reads : ReadsLines old.input (reads_in turns) new.input
      pub moments : AllByRecursion (λ turn. IsNow turn.moment) turns
      pub asked : Appends old.given new.given (moments_in turns)
      pub answers : AnswersEach old.desk (session_calls server_nonce greeting turns) new.desk
      pub written : AreWritten (call_lines (session_calls server_nonce greeting turns)) old.wire new.wire old.log new.log
      pub halts : HaltsOnlyByStore facts new.desk

    -- a session that has ended, or in which the desk has halted, after at most `max_turns` turns
    pub record IsServedToEnd (server_nonce : List ℕ) (old new : Service S) : Type 0 where
      pub turns : List ServedTurn
      pub few : length turns ≤ max_turns
      pub served : IsServedUpTo server_nonce turns old new
      pub ended : (desk_phase new.desk ≡ phase.Closed) ⊎ (desk_phase new.desk ≡ phase.Halted)

    -- a session whose turns are used up. Nothing more was read of its client.
    pub record HasUsedAllTurns (server_nonce : List ℕ) (old middle new : Service S) : Type 0 where
      pub turns : List ServedTurn
      pub all : length turns ≡ max_turns
      pub served : IsServedUpTo server_nonce turns old middle
      pub unread : new.input ≡ middle.input

    -- a session whose turns are used up, and whose client was then treated as gone
    pub record IsCutOff (server_nonce : List ℕ) (old new : Service S) : Type 0 where
      pub middle : Service S
      pub used_up : HasUsedAllTurns server_nonce old middle new
      pub moment : ℕ
      pub is_now : IsNow moment
      pub asked : IsAskedOnce moment middle new
      pub done : IsDone (hears goes_away moment) middle.desk new.desk middle.wire new.wire middle.log new.log

    -- a session was served: its turns ended it, or it was cut off when they were used up
    abbrev pub IsServed : (server_nonce : List ℕ) → (old new : Service S) → Type 0
    IsServed server_nonce old new = IsServedToEnd server_nonce old new ⊎ IsCutOff server_nonce old new

    -- a turn was not served, for this reason, and the desk had not halted before it. All turns before it were served.
    pub record FailsInTurn (server_nonce : List ℕ) (old new : Service S) (fault : ServeFault) : Type 0 where
      pub middle : Service S
      pub turns : List ServedTurn
      pub few : length turns < max_turns
      pub served : IsServedUpTo server_nonce turns old middle
      pub moment : ℕ
      pub goes_on : fault ≢ Halted
      pub is_now : IsNow moment
      pub undone : IsTurnFault moment middle new fault

    -- the turns were used up, and the client could not be treated as gone, for this reason
    pub record FailsAtEnd (server_nonce : List ℕ) (old new : Service S) (fault : ServeFault) : Type 0 where
      pub middle : Service S
      pub used_up : HasUsedAllTurns server_nonce old middle new
      pub moment : ℕ
      pub is_now : IsNow moment
      pub asked : IsAskedOnce moment middle new
      pub undone : IsNotDone (hears goes_away moment) middle.desk new.desk middle.wire new.wire middle.log new.log fault

    -- why a session was not served to its end
    abbrev pub IsServeFault : (server_nonce : List ℕ) → (old new : Service S) → ServeFault → Type 0
    IsServeFault server_nonce old new fault =
        FailsInGreeting server_nonce old new fault ⊎ FailsInTurn server_nonce old new fault ⊎ FailsAtEnd server_nonce old new fault
