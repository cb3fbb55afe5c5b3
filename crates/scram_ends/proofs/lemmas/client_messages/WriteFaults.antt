-- When a message that can be written fails to be written.
use Rattle.std.proofs.Common.{◌≡◌, refl}
use Rattle.std.specs.declared.result.Result.{Result}
use Rattle.std.specs.declared.result.Result.TheVariants.{Err}
use Rattle.scram_text.specs.declared.fault.WriteFault.{WriteFault}
use Rattle.scram_text.specs.declared.fault.WriteFault.TheVariants.{Unwritable, OverLimit, NoMemory}

-- a writer that is given what it can write fails only if memory runs out
pub write_fault_is_memory : {T : Type 0} (r : Result T WriteFault) (f : WriteFault)
    → r ≡ Err f → (r ≡ Err Unwritable → ⊥) → (r ≡ Err OverLimit → ⊥) → f ≡ NoMemory
write_fault_is_memory r Unwritable failed unwritable over = absurd (unwritable failed)
write_fault_is_memory r OverLimit failed unwritable over = absurd (over failed)
write_fault_is_memory r NoMemory failed unwritable over = refl
