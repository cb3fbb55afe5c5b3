-- The faults with which a desk or a hall can't begin, none of which is `BadEvent`, and those at which a hall stops hearing.
use Rattle.std.proofs.Common.{◌≡◌, ◌⊎◌, inl, inr, ℕ, List, Option, ap, ◌∙◌, subst}
use Rattle.account_book.specs.{BookFields}
use Rattle.account_book.specs.Store.{StoreFacts}
use Rattle.command_io.specs.File.{IsFileUnwrittenOrNoMemory}
use Rattle.command_line.specs.declared.fault.Fault.{Fault}
use Rattle.command_line.specs.declared.fault.Fault.TheVariants.{BadEvent}
use Rattle.sasl_log.specs.Sink.{SinkFacts}
use Rattle.commands.specs.Hall.{StopsHearing}
use Rattle.commands.specs.PrintedLog.{StopsAfter, DoesNotBegin}
use Rattle.commands.specs.inner.TurnFaults.{FailsToBegin, IsUnsavedOrUnlogged}

-- what was printed before a fault, and what is true if the run has not begun, may be replaced by what follows from them
pub stop_weakens : {fault : Fault} {Unbegun Fails Printed Prints : Type 0} {old new : Option (List ℕ)} → (Unbegun → Fails)
    → (Printed → Prints) → StopsAfter fault Unbegun old new Printed → StopsAfter fault Fails old new Prints
stop_weakens fails prints (inl output) = inl output
stop_weakens fails prints (inr (inl (unbegun, same))) = inr (inl (fails unbegun, same))
stop_weakens fails prints (inr (inr printed)) = inr (inr (prints printed))

-- a desk or a hall that can't begin
module _ (path : List ℕ) (book : BookFields) (old new : SinkFacts) (store store' : StoreFacts) (fault : Fault) where
  -- it has printed nothing, or the output can't be written
  pub failed_begin_prints_nothing : (before after : Option (List ℕ)) (Printed : Type 0) → old.given ≡ before → after ≡ new.given
      → FailsToBegin path book old new store store' fault
      → StopsAfter fault (DoesNotBegin path book store store' fault) before after Printed
  failed_begin_prints_nothing before after Printed was is (inl (output, failed)) = inl output
  failed_begin_prints_nothing before after Printed was is (inr (same, unbegun)) =
      inr (inl (unbegun, is ∙ (ap (λ (f : SinkFacts). f.given) same ∙ was)))

  -- its fault is not a `BadEvent`
  pub failed_begin_excludes_bad_event : FailsToBegin path book old new store store' fault → fault ≡ BadEvent → ⊥
  failed_begin_excludes_bad_event (inl (output, failed)) is = cc (output, is)
  failed_begin_excludes_bad_event (inr (same, unbegun)) is =
      let wrong = subst (IsFileUnwrittenOrNoMemory path) is unbegun.0 in cc wrong

  -- its fault is one at which a hall stops hearing
  pub failed_begin_stops_hearing : FailsToBegin path book old new store store' fault → StopsHearing path fault
  failed_begin_stops_hearing (inl (output, failed)) = inr (inr (inr output))
  failed_begin_stops_hearing (inr (same, unbegun)) = inr (inr (inl unbegun.0))

-- a hall stops hearing at a bad event, an unsaved book or a failed log
pub line_fault_stops_hearing : (path : List ℕ) (log : SinkFacts) (fault : Fault) → (fault ≡ BadEvent) ⊎ IsUnsavedOrUnlogged path log fault
    → StopsHearing path fault
line_fault_stops_hearing path log fault (inl bad) = inr (inl bad)
line_fault_stops_hearing path log fault (inr (inl unwritten)) = inr (inr (inl unwritten))
line_fault_stops_hearing path log fault (inr (inr (output, failed))) = inr (inr (inr output))
