-- That a log stays that of its hall, line by line of the input.
use Rattle.std.specs.Prelude.{ℕ, ◌≡◌, ◌⊎◌, List, [], ◌∷◌, ◌++◌, reverse}
use Rattle.std.specs.Io.KnownBytes.{Appends}
use Rattle.std.specs.declared.option.Option.{Option}
use Rattle.std.specs.declared.option.Option.TheVariants.{None}
use Rattle.account_book.specs.{BookFields}
use Rattle.account_book.specs.Store.{StoreFacts}
use Rattle.command_line.specs.declared.fault.Fault.{Fault}
use Rattle.log_grammar.specs.Numbered.{Numbered}
use Rattle.log_grammar.specs.Books.{accounts_in}
use Rattle.sasl_log.specs.Sink.{SinkFacts}
use Rattle.sasl_desk.specs.Halls.{HallFields, hall_shown, hall_bytes, phase_of_number, IsHallAfter}
use Rattle.sasl_desk.specs.Runs.{Call}
use Rattle.sasl_desk.specs.declared.hall.Hall.{Hall}
use Rattle.commands.specs.inner.TurnFaults.{IsLogFault}
use Rattle.commands.specs.Hall.{InputEvent, opens, does_at, SaysEvent, SaysNoEvent, AreCallsFor, SaysEvents, PrintsHallLog, IsBadEventAfter}

-- the event is that of a session that is not open
abbrev pub IsOfClosedSession : {S : Type 0} → HallFields S → InputEvent → Type 0
IsOfClosedSession hall (opens server_nonce) = ⊥
IsOfClosedSession hall (does_at session event moment) = phase_of_number hall session ≡ None

-- an input line says no event, or one of a session that is not open
abbrev pub IsBadEvent : {S : Type 0} → List ℕ → HallFields S → Type 0
IsBadEvent line hall = SaysNoEvent line ⊎ ((event : InputEvent) × SaysEvent line event × IsOfClosedSession hall event)

-- what a hall hears: `facts` are those of its store, and `IsStored` is true of each text that is stored
module _ {S : Type 0} (facts : S → StoreFacts) (IsStored : List ℕ → Type 0) where
  -- a hall that began with this book has heard these events, the latest of which comes first, and the log took its lines after
  -- what it had before
  pub record IsHallLogOf (start : BookFields) (before : Option (List ℕ)) (events : List InputEvent) (hall : Hall S)
      (log : SinkFacts) : Type 0 where
    pub calls : List (Numbered Call)
    pub heard : AreCallsFor events calls
    pub stands : IsHallAfter facts IsStored start calls (hall_shown hall)
    pub logged : Appends before log.given (hall_bytes calls)

  -- the hall has heard these events as well: if the log was the hall's, it still is
  abbrev pub Hears : List InputEvent → (old : Hall S) → (log : SinkFacts) → (new : Hall S) → (log' : SinkFacts) → Type 0
  Hears events old log new log' =
      (start : BookFields) (before : Option (List ℕ)) (earlier : List InputEvent)
      → IsHallLogOf start before earlier old log → IsHallLogOf start before (events ++ earlier) new log'

  -- the hall has heard what the line says
  abbrev pub HearsLine : (line : List ℕ) → (old : Hall S) → (log : SinkFacts) → (new : Hall S) → (log' : SinkFacts) → Type 0
  HearsLine line old log new log' = (event : InputEvent) × SaysEvent line event × Hears (event ∷ []) old log new log'

  -- the log has failed, and that is the fault. If the log was the hall's, the hall still stands for the book with which it began and some
  -- calls; which of them are in the log is not said.
  abbrev pub LosesHallLog : (old : Hall S) → (log : SinkFacts) → (new : Hall S) → (log' : SinkFacts) → Fault → Type 0
  LosesHallLog old log new log' fault =
      IsLogFault log' fault
      × ((start : BookFields) (before : Option (List ℕ)) (earlier : List InputEvent) → IsHallLogOf start before earlier old log
      → (calls : List (Numbered Call)) × IsHallAfter facts IsStored start calls (hall_shown new))

  -- after a fault at what the hall was to hear: the log is lost; or the hall has heard nothing, or this
  abbrev pub MayHaveHeard : (This : Hall S → SinkFacts → Hall S → SinkFacts → Type 0) → (old : Hall S) → (log : SinkFacts) → (new : Hall S)
      → (log' : SinkFacts) → Fault → Type 0
  MayHaveHeard This old log new log' fault = LosesHallLog old log new log' fault ⊎ (Hears [] old log new log' ⊎ This old log new log')

  -- the hall has heard what the lines of an input say, in order; `last` are its last lines, which are left out
  pub record HearsUpTo (input : Option (List ℕ)) (last : List (List ℕ)) (old : Hall S) (log : SinkFacts) (new : Hall S)
      (log' : SinkFacts) : Type 0 where
    pub says : SaysEvents input last
    pub heard : Hears (reverse says.events) old log new log'

  -- the hall has heard what each line of the input says, in order
  abbrev pub HearsAllLines : Option (List ℕ) → (old : Hall S) → (log : SinkFacts) → (new : Hall S) → (log' : SinkFacts) → Type 0
  HearsAllLines input old log new log' = HearsUpTo input [] old log new log'

  -- after a fault: the log is lost, or the hall has heard what the first lines of the input say, and its log has that
  abbrev pub HearsFirstLines : Option (List ℕ) → (old : Hall S) → (log : SinkFacts) → (new : Hall S) → (log' : SinkFacts) → Fault → Type 0
  HearsFirstLines input old log new log' fault =
      LosesHallLog old log new log' fault ⊎ ((last : List (List ℕ)) × HearsUpTo input last old log new log')

  -- the next line of the input says no event, or one of a session that is not open in the hall after the lines before it
  abbrev pub MeetsBadEvent : Option (List ℕ) → (old : Hall S) → (log : SinkFacts) → (new : Hall S) → (log' : SinkFacts) → Type 0
  MeetsBadEvent input old log new log' =
      (line : List ℕ) × (last : List (List ℕ)) × HearsUpTo input (line ∷ last) old log new log' × IsBadEvent line (hall_shown new)

-- the log of a hall is printed (`PrintsHallLog`), and the next line says no event, or one of a session that is not open
abbrev pub PrintsToBadEvent : (IsStored : List ℕ → Type 0) → BookFields → StoreFacts → (input old new : Option (List ℕ)) → Type 0
PrintsToBadEvent IsStored book store input old new =
    (line : List ℕ) × (last : List (List ℕ)) × (log : PrintsHallLog IsStored book input (line ∷ last) store old new)
    × IsBadEventAfter (accounts_in book) log.calls line
