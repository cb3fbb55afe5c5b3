-- What two hashes in one pass have read.
use Rattle.std.specs.Prelude.{ℕ, List}
use Rattle.mac_core.specs.declared.mechanism.Mechanism.{Mechanism}
use Rattle.hmac_midstate.specs.Midstate.{IsReading}
use Rattle.hmac_midstate.specs.declared.running.Running.{Running}

-- the first hash has read this message
abbrev pub OneReads : Mechanism → Running → (message : List ℕ) → Type 0
OneReads mechanism running message = IsReading mechanism running.one running.buffer running.total message

-- the second hash has read this message
abbrev pub OtherReads : Mechanism → Running → (message : List ℕ) → Type 0
OtherReads mechanism running message = IsReading mechanism running.other running.buffer running.total message
