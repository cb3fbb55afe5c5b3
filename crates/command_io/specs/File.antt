-- Why a file gives no bytes, or takes none.
use Rattle.std.specs.Prelude.{ℕ, ◌≡◌, List, string_bytes}
use Rattle.command_line.specs.declared.fault.Fault.{Fault}
use Rattle.command_line.specs.declared.fault.Fault.TheVariants.{CannotRead, CannotWrite, NoMemory}

-- the file of this path can't be read, or memory ran out
abbrev pub IsFileUnreadOrNoMemory : (path : List ℕ) → Fault → Type 0
IsFileUnreadOrNoMemory path (CannotRead file) = string_bytes file ≡ path
IsFileUnreadOrNoMemory path fault = fault ≡ NoMemory

-- the file of this path can't be written, or memory ran out
abbrev pub IsFileUnwrittenOrNoMemory : (path : List ℕ) → Fault → Type 0
IsFileUnwrittenOrNoMemory path (CannotWrite file) = string_bytes file ≡ path
IsFileUnwrittenOrNoMemory path fault = fault ≡ NoMemory
