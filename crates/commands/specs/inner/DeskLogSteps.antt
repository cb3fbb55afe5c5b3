-- That a log stays that of its desk, step by step.
use Rattle.std.specs.Prelude.{ℕ, ◌⊎◌, List}
use Rattle.std.specs.List.{AllByRecursion}
use Rattle.std.specs.Io.KnownBytes.{Appends}
use Rattle.std.specs.declared.option.Option.{Option}
use Rattle.account_book.specs.{BookFields}
use Rattle.account_book.specs.Store.{StoreFacts}
use Rattle.command_line.specs.declared.fault.Fault.{Fault}
use Rattle.log_grammar.specs.Lines.{log_bytes}
use Rattle.sasl_log.specs.Sink.{SinkFacts}
use Rattle.sasl_desk.specs.Desks.{IsDeskAfter}
use Rattle.sasl_desk.specs.Runs.{Call, run_lines}
use Rattle.sasl_desk.specs.declared.desk.Desk.{Desk}
use Rattle.commands.specs.inner.TurnFaults.{IsLogFault}
use Rattle.commands.specs.DeskLog.{IsRequestWith}

-- the log of a desk: `facts` are those of its store, `IsStored` is true of each text that is stored, and `IsNow` of each moment of
-- its clock
module _ {S : Type 0} (facts : S → StoreFacts) (IsStored : List ℕ → Type 0) (IsNow : ℕ → Type 0) where
  -- a desk that began with this book has answered some calls: it began each session with this part of the nonce, and heard its
  -- client at moments of which `IsNow` is true. The log took the lines of the calls after what it had before.
  pub record IsDeskLog (start : BookFields) (before : Option (List ℕ)) (server_nonce : List ℕ) (desk : Desk S) (log : SinkFacts)
      : Type 0 where
    pub calls : List Call
    pub stands : IsDeskAfter facts IsStored start calls desk
    pub requests : AllByRecursion (λ call. IsRequestWith server_nonce IsNow call.request) calls
    pub logged : Appends before log.given (log_bytes (run_lines calls))

  -- if the log was that of the desk, with this part of the nonce, it still is
  abbrev pub StaysDeskLogWith : (server_nonce : List ℕ) → (old : Desk S) → (log : SinkFacts) → (new : Desk S) → (log' : SinkFacts) → Type 0
  StaysDeskLogWith server_nonce old log new log' =
      (start : BookFields) (before : Option (List ℕ)) → IsDeskLog start before server_nonce old log
      → IsDeskLog start before server_nonce new log'

  -- if the log was that of the desk, with any part of the nonce, it still is
  abbrev pub StaysDeskLog : (old : Desk S) → (log : SinkFacts) → (new : Desk S) → (log' : SinkFacts) → Type 0
  StaysDeskLog old log new log' = (server_nonce : List ℕ) → StaysDeskLogWith server_nonce old log new log'

  -- the log has failed, and that is the fault. If the log was that of the desk, with this part of the nonce, the desk still stands for the
  -- book with which it began and some calls; which of them are in the log is not said.
  abbrev pub LosesDeskLogWith : (server_nonce : List ℕ) → (old : Desk S) → (log : SinkFacts) → (new : Desk S) → (log' : SinkFacts) → Fault
      → Type 0
  LosesDeskLogWith server_nonce old log new log' fault =
      IsLogFault log' fault
      × ((start : BookFields) (before : Option (List ℕ)) → IsDeskLog start before server_nonce old log
      → (calls : List Call) × IsDeskAfter facts IsStored start calls new)

  -- what is true after a fault, of a desk with this part of the nonce: the log is lost, or it is still the desk's
  abbrev pub IsLogAfterFaultWith : (server_nonce : List ℕ) → (old : Desk S) → (log : SinkFacts) → (new : Desk S) → (log' : SinkFacts)
      → Fault → Type 0
  IsLogAfterFaultWith server_nonce old log new log' fault =
      LosesDeskLogWith server_nonce old log new log' fault ⊎ StaysDeskLogWith server_nonce old log new log'

  -- whatever the part of the nonce, the log is lost after a fault, or it is still the desk's
  abbrev pub IsLogAfterFault : (old : Desk S) → (log : SinkFacts) → (new : Desk S) → (log' : SinkFacts) → Fault → Type 0
  IsLogAfterFault old log new log' fault = (server_nonce : List ℕ) → IsLogAfterFaultWith server_nonce old log new log' fault
