-- The faults of taking hold of a book.
use Rattle.std.specs.Prelude.{◌≡◌, Bool, true, false}
use Rattle.std.specs.IoError.{error_kind}
use Rattle.std.specs.declared.io.Error.{Error}
use Rattle.std.specs.declared.io.ErrorKind.TheVariants.{ResourceBusy}
use Rattle.book_file.specs.declared.fault.HoldFault.{HoldFault}
use Rattle.book_file.specs.declared.fault.HoldFault.TheVariants.{Unreadable, Missing, Unwritable, OwnedByAnother, HeldByOthers, InTheWay}

-- a fault of taking hold of a book. If a missing book is to be made, it is not Missing; otherwise it is not Unwritable.
abbrev pub IsHoldFault : (may_make : Bool) → HoldFault → Type 0
IsHoldFault may_make (Unreadable error) = Unit {0}
IsHoldFault may_make Missing = may_make ≡ false
IsHoldFault may_make (Unwritable error) = may_make ≡ true
IsHoldFault may_make OwnedByAnother = Unit {0}
IsHoldFault may_make HeldByOthers = Unit {0}
IsHoldFault may_make (InTheWay path) = Unit {0}

-- why no next text can be written: the error of the call that failed, if there is one; else one of kind ResourceBusy, as the file's
-- name is not free
abbrev pub IsNextError : HoldFault → Error → Type 0
IsNextError (Unreadable error) found = found ≡ error
IsNextError (Unwritable error) found = found ≡ error
IsNextError other found = error_kind found ≡ ResourceBusy
