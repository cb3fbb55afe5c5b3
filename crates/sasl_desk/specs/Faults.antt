-- The faults of a desk and a hall, their numbers, and why a desk or a hall does not begin.
use Rattle.std.specs.Prelude.{ℕ, ◌≡◌}
use Rattle.account_book.specs.{BookFields}
use Rattle.account_book.specs.Store.{StoreFacts}
use Rattle.book_keeper.specs.Keeper.{FailsToSave}
use Rattle.book_keeper.specs.declared.keeper.SaveFault.{SaveFault}
use Rattle.book_keeper.specs.declared.keeper.SaveFault.TheVariants as save
use Rattle.sasl_desk.specs.declared.fault.DeskFault.{DeskFault}
use Rattle.sasl_desk.specs.declared.fault.DeskFault.TheVariants.{Halted, Unwritable, NoNumber, NoMemory}
use Rattle.sasl_desk.specs.declared.fault.ServeFault.{ServeFault}
use Rattle.sasl_desk.specs.declared.fault.ServeFault.TheVariants as serve

-- the number of each fault of a desk
abbrev pub desk_fault_number : DeskFault → ℕ
desk_fault_number Halted = 72
desk_fault_number Unwritable = 73
desk_fault_number NoNumber = 76
desk_fault_number NoMemory = 99

-- the number of a fault in serving
abbrev pub serve_fault_number : ServeFault → ℕ
serve_fault_number serve.Halted = 72
serve_fault_number serve.Unwritable = 73
serve_fault_number serve.NoMemory = 99
serve_fault_number serve.WriteFault = 74
serve_fault_number serve.LogFault = 75

-- the fault of a desk or a hall whose first save has this fault
abbrev pub fault_of_save : SaveFault → DeskFault
fault_of_save save.NotSaved = Halted
fault_of_save save.NoMemory = NoMemory

-- why a desk or a hall has not begun: memory ran out, and the store was not asked; or its first save failed
abbrev pub IsNotBegun : (old_store : StoreFacts) → BookFields → DeskFault → (new_store : StoreFacts) → Type 0
IsNotBegun old_store book NoMemory new_store = new_store ≡ old_store
IsNotBegun old_store book Halted new_store = FailsToSave old_store book new_store
IsNotBegun old_store book Unwritable new_store = ⊥
IsNotBegun old_store book NoNumber new_store = ⊥
