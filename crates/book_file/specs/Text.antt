-- How long the text of a book may be, and what is known of the files that a text was read from or written to: what their reads and
-- writes say. Their paths are not known.
use Rattle.std.specs.Prelude.{ℕ, ◌≡◌, List, Option, IfSome}
use Rattle.std.specs.Io.KnownBytes.{Appends}

-- the most bytes that the text of a book may have
abbrev pub max_book_len : ℕ
max_book_len = 16777216

-- these are all the bytes that a file had left when it was read, if those are known
abbrev pub IsRead : {File : Type 0} → (remaining : File → Option (List ℕ)) → List ℕ → Type 0
IsRead {File} remaining bytes = (file : File) × IfSome (remaining file) (λ all. bytes ≡ all)

-- these bytes were written to a file, at the end of its contents, if those are known. In a save this is the file of the next text.
-- It is not said that this file then gets the book's name: a store is known only by its texts.
abbrev pub IsWritten : {File : Type 0} → (contents : File → Option (List ℕ)) → List ℕ → Type 0
IsWritten {File} contents bytes = (before : File) × (after : File) × Appends (contents before) (contents after) bytes
