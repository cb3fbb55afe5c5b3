-- What a server's writer of a message answers, whose arguments are in their classes and whose message is within the limit.
use Rattle.std.specs.Prelude.{ℕ, List, Result, OnOk, IsErrOf, Vec}
use Rattle.scram_text.specs.Appended.{IsAppended, LacksRoom}
use Rattle.scram_text.specs.declared.fault.WriteFault.{WriteFault}

-- the text of these parts is appended, and is such a message of them; or 99 is returned, and it is one for which the vector has no room
-- reserved. No other fault is returned.
pub record IsWrittenUnlessFull {T P Z : Type 0} (result : Result T WriteFault) (old new : Vec ℕ Z) (text : P → List ℕ)
    (IsMessage : List ℕ → P → Type 0) (p : P) : Type 0 where
  pub appended : IsAppended result old new (text p)
  pub is_message : OnOk result (IsMessage (text p) p)
  pub unwritable : IsErrOf result WriteFault.Unwritable → ⊥
  pub over_limit : IsErrOf result WriteFault.OverLimit → ⊥
  pub no_memory : IsErrOf result WriteFault.NoMemory → IsMessage (text p) p × LacksRoom old (text p)
