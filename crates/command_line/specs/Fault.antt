-- The faults with which a command ends, and their exit statuses.
use Rattle.std.specs.Prelude.{ℕ}
use Rattle.book_format.specs.Faults.{book_why_number}
use Rattle.book_format.specs.declared.fault.BookFault.{BookFault}
use Rattle.book_format.specs.declared.fault.BookWhy.{BookWhy}
use Rattle.book_format.specs.declared.fault.BookWhy.TheVariants as why
use Rattle.command_line.specs.declared.fault.Fault.{Fault}
use Rattle.command_line.specs.declared.fault.Fault.TheVariants.{BadValue, BadPassword, NoCounterOrMoment, BeforeFirstStep, NameTaken, NoSuchAccount}
use Rattle.command_line.specs.declared.fault.Fault.TheVariants.{NoToken, BadBook, CannotRead, CannotWrite, BadEvent, Socket, CannotReadInput}
use Rattle.command_line.specs.declared.fault.Fault.TheVariants.{CannotWriteOutput, NoMemory}

-- the exit status: 1 for a refusal, 2 if a value or the password is malformed or an option is missing, 3 for files, sockets,
-- streams and memory
abbrev pub status_of : Fault → ℕ
status_of (BadValue option) = 2
status_of BadPassword = 2
status_of NoCounterOrMoment = 2
status_of BeforeFirstStep = 1
status_of NameTaken = 1
status_of NoSuchAccount = 1
status_of NoToken = 1
status_of (BadBook number) = 1
status_of (CannotRead file) = 3
status_of (CannotWrite file) = 3
status_of BadEvent = 1
status_of Socket = 3
status_of CannotReadInput = 3
status_of CannotWriteOutput = 3
status_of NoMemory = 3

-- what is wrong with a book's text, as a command reports it: by its number, or that memory ran out
abbrev pub fault_of_book_why : BookWhy → Fault
fault_of_book_why why.NoMemory = NoMemory
fault_of_book_why other = BadBook (book_why_number other)

-- why a text is no account book, as a command reports it
abbrev pub fault_of_book : BookFault → Fault
fault_of_book fault = fault_of_book_why fault.why
