-- The faults of one call of a desk or a hall, and what is known of its log.
use Rattle.std.specs.Prelude.{ℕ, ◌≡◌, ◌≤◌, length, ◌⊎◌, true, List}
use Rattle.std.specs.Io.KnownBytes.{Consumes, IsAtEnd}
use Rattle.scram_text.specs.SplitLines.{LacksLf}
use Rattle.account_book.specs.{BookFields}
use Rattle.account_book.specs.Store.{StoreFacts}
use Rattle.command_io.specs.File.{IsFileUnwrittenOrNoMemory}
use Rattle.command_line.specs.declared.fault.Fault.{Fault}
use Rattle.command_line.specs.declared.fault.Fault.TheVariants.{Socket, CannotWriteOutput, NoMemory}
use Rattle.sasl_log.specs.Sink.{SinkFacts}
use Rattle.sasl_log.specs.Source.{SourceFacts}
use Rattle.sasl_desk.specs.declared.fault.ServeFault.{ServeFault}
use Rattle.sasl_desk.specs.declared.fault.ServeFault.TheVariants as serve
use Rattle.commands.specs.PrintedLog.{DoesNotBegin}

-- the log has failed, and that is the fault
abbrev pub IsLogFault : (log : SinkFacts) → Fault → Type 0
IsLogFault log fault = (fault ≡ CannotWriteOutput) × (log.failed ≡ true)

-- a desk or a hall over this book can't begin: the log has failed; or it is as it was, and `DoesNotBegin` is true of the store
abbrev pub FailsToBegin : (path : List ℕ) → BookFields → (old new : SinkFacts) → (store store' : StoreFacts) → Fault → Type 0
FailsToBegin path book old new store store' fault = IsLogFault new fault ⊎ ((new ≡ old) × DoesNotBegin path book store store' fault)

-- the book, whose file has this path, can't be saved, or memory ran out; or the log has failed
abbrev pub IsUnsavedOrUnlogged : (path : List ℕ) → (log : SinkFacts) → Fault → Type 0
IsUnsavedOrUnlogged path log fault = IsFileUnwrittenOrNoMemory path fault ⊎ IsLogFault log fault

-- a source gives no line of at most `most` bytes with its LF: it has failed, or it has ended, or these bytes have no LF
pub record GivesNoLine (most : ℕ) (old new : SourceFacts) : Type 0 where
  pub begun : List ℕ
  pub taken : Consumes old.left new.left begun
  pub lacks : LacksLf begun
  pub why : (new.failed ≡ true) ⊎ (IsAtEnd new.left ⊎ (most ≤ length begun))

-- why a client is not served, as the command reports it: the book, whose file has this path, can't be saved, the log has failed, or
-- memory ran out. `WriteFault` is that memory ran out: what the desk says is first kept in memory.
abbrev pub IsFaultOfServing : (path : List ℕ) → ServeFault → Fault → Type 0
IsFaultOfServing path serve.Halted fault = IsFileUnwrittenOrNoMemory path fault
IsFaultOfServing path serve.Unwritable fault = ⊥
IsFaultOfServing path serve.NoMemory fault = fault ≡ NoMemory
IsFaultOfServing path serve.WriteFault fault = fault ≡ NoMemory
IsFaultOfServing path serve.LogFault fault = fault ≡ CannotWriteOutput

-- the fault of a turn: the socket fails; the book, whose file has this path, can't be saved; memory ran out; or the log has failed
abbrev pub IsFaultInTurn : (path : List ℕ) → (log : SinkFacts) → Fault → Type 0
IsFaultInTurn path log fault = (fault ≡ Socket) ⊎ IsUnsavedOrUnlogged path log fault
