-- Which texts a file store has saved.
use Rattle.std.specs.Prelude.{ℕ, ◌≤◌, List, Option, length}
use Rattle.book_file.specs.Text.{max_book_len, IsWritten}

-- this text was written to a file, if the file's contents are known, and is not longer than the text of a book may be
abbrev pub IsSavedText : {File : Type 0} → (contents : File → Option (List ℕ)) → List ℕ → Type 0
IsSavedText contents text = (length text ≤ max_book_len) × IsWritten contents text
