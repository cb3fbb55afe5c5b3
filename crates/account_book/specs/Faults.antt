-- The numbers of refusals to enrol.
use Rattle.std.specs.Prelude.{ℕ}
use Rattle.account_book.specs.declared.book.enrol.EnrolFault.{EnrolFault}
use Rattle.account_book.specs.declared.book.enrol.EnrolFault.TheVariants.{NameTaken, NoMemory}

-- the number of a refusal to enrol
abbrev pub enrol_fault_number : EnrolFault → ℕ
enrol_fault_number NameTaken = 50
enrol_fault_number NoMemory = 99
