-- What a run has printed when a fault ends it.
use Rattle.std.specs.Prelude.{ℕ, ◌≡◌, ◌⊎◌, List}
use Rattle.std.specs.declared.option.Option.{Option}
use Rattle.command_line.specs.declared.fault.Fault.{Fault}
use Rattle.command_line.specs.declared.fault.Fault.TheVariants.{CannotWriteOutput}

-- nothing was printed, unless the fault is that the output can't be written
abbrev pub PrintsNothingUnlessOutputFailed : Fault → (old new : Option (List ℕ)) → Type 0
PrintsNothingUnlessOutputFailed fault old new = (fault ≡ CannotWriteOutput) ⊎ (new ≡ old)
