-- The fault of a book that can't be held or read.
use Rattle.std.proofs.Common.{◌≡◌, ◌≢◌, ◌⊎◌, inl, inr, ℕ, List, Option, refl, sym, subst, ap, ◌∙◌}
use Rattle.std.proofs.lemmas.Bool.{cases_Bool, both_ways}
use Rattle.std.proofs.lemmas.Str.{IsUtf8-from_is_utf8}
use Rattle.std.specs.Prelude.{string_bytes, false, None, Err, IsOk, IsTrue, Result}
use Rattle.std.specs.Str.{IsUtf8, is_utf8}
use Rattle.std.specs.declared.io.ErrorKind.{ErrorKind}
use Rattle.std.specs.declared.io.ErrorKind.TheVariants.{OutOfMemory}
use Rattle.scram_text.proofs.lemmas.FirstUnmet.{found_is_first}
use Rattle.book_format.specs.Faults.{book_why_number}
use Rattle.book_format.specs.Demands.{must}
use Rattle.book_format.specs.FirstFault.{book_demands, IsBookFault}
use Rattle.book_format.specs.declared.fault.BookFault.{BookFault}
use Rattle.book_format.specs.declared.fault.BookWhy.TheVariants as why
use Rattle.book_file.specs.Text.{IsRead}
use Rattle.command_line.specs.Fault.{fault_of_book_why, fault_of_book}
use Rattle.command_line.specs.declared.fault.Fault.{Fault}
use Rattle.command_line.specs.declared.fault.Fault.TheVariants.{BadBook, CannotRead, CannotWrite, NoMemory}
use Rattle.command_io.specs.File.{IsFileUnreadOrNoMemory}
use Rattle.command_io.specs.HeldBook.{CannotHoldOrNoMemory, IsFaultOfText, CannotOpenBook}

-- a kind of error is `OutOfMemory` or another
decided_out_of_memory : (kind : ErrorKind) → (kind ≡ OutOfMemory) ⊎ (kind ≢ OutOfMemory)
decided_out_of_memory OutOfMemory = inl refl
decided_out_of_memory other = inr (λ same. cc same)

-- after a failed read, the fault says that this file can't be read or that memory ran out
pub failed_read_leaves_file_unread : (path : List ℕ) (kind : ErrorKind) (file : _) (fault : Fault) → string_bytes file ≡ path
    → (kind ≡ OutOfMemory → fault ≡ NoMemory) → (kind ≢ OutOfMemory → fault ≡ CannotRead file) → IsFileUnreadOrNoMemory path fault
failed_read_leaves_file_unread path kind file fault named memory plain = elim (decided_out_of_memory kind) [
  | inl same ↦ subst (IsFileUnreadOrNoMemory path) (sym (memory same)) refl
  | inr other ↦ subst (IsFileUnreadOrNoMemory path) (sym (plain other)) named
]

-- the fault of a book's file that can't be read is a fault of a book that can't be held
pub unread_file_prevents_holding : (path : List ℕ) (fault : Fault) → IsFileUnreadOrNoMemory path fault → CannotHoldOrNoMemory path fault
unread_file_prevents_holding path (CannotRead file) is = is
unread_file_prevents_holding path (CannotWrite file) is = tt
unread_file_prevents_holding path fault is = is

-- a failed read of the book's file is a fault of a book that can't be held
pub failed_read_prevents_holding : (path : List ℕ) (kind : ErrorKind) (file : _) (fault : Fault) → string_bytes file ≡ path
    → (kind ≡ OutOfMemory → fault ≡ NoMemory) → (kind ≢ OutOfMemory → fault ≡ CannotRead file) → CannotHoldOrNoMemory path fault
failed_read_prevents_holding path kind file fault named memory plain =
    unread_file_prevents_holding path fault (failed_read_leaves_file_unread path kind file fault named memory plain)

-- if a text was read that is not a book, the fault is that the file can't be read, or it is the text's own fault
pub bad_text_leaves_book_unread : {File : Type 0} (bytes_of : File → Option (List ℕ)) (path text : List ℕ) (found : BookFault)
    (fault : Fault)
    → IsRead bytes_of text
    → fault ≡ fault_of_book found → (found.why ≡ why.NoMemory) ⊎ IsBookFault text found
    → IsFileUnreadOrNoMemory path fault ⊎ IsFaultOfText bytes_of fault
bad_text_leaves_book_unread bytes_of path text found fault read is (inl memory) =
    inl (subst (IsFileUnreadOrNoMemory path) (sym (is ∙ ap fault_of_book_why memory)) refl)
bad_text_leaves_book_unread bytes_of path text found fault read is (inr first) = inr (text, found, read, first, is)

-- if a text was read that is not a book, the fault is one of a book that can't be held or read
pub bad_text_prevents_opening : {File : Type 0} (bytes_of : File → Option (List ℕ)) (path text : List ℕ) (found : BookFault) (fault : Fault)
    → IsRead bytes_of text
    → fault ≡ fault_of_book found → (found.why ≡ why.NoMemory) ⊎ IsBookFault text found → CannotOpenBook bytes_of path fault
bad_text_prevents_opening bytes_of path text found fault read is reason =
    elim (bad_text_leaves_book_unread bytes_of path text found fault read is reason) [
      | inl file ↦ inl (unread_file_prevents_holding path fault file)
      | inr of_text ↦ inr of_text
    ]

-- the first fault of bytes that are not UTF-8 is that they are not TOML
non_utf8_is_no_toml : (bytes : List ℕ) → (IsUtf8 bytes → ⊥) → IsBookFault bytes (record { why = why.Toml; account = None })
unfolding book_demands
non_utf8_is_no_toml bytes none = elim (cases_Bool (is_utf8 bytes)) [
  | inl is ↦ absurd (none (IsUtf8-from_is_utf8 bytes is))
  | inr not ↦
      let toml : BookFault = record { why = why.Toml; account = None } in
      found_is_first (λ demand. IsTrue demand.met) (book_demands bytes) (must false toml)
      (inl (ap (λ test. must test toml) not, λ met. both_ways (is_utf8 bytes) not met))
]

-- if bytes were read that are not UTF-8, the fault is one of a book that can't be held or read
pub non_utf8_prevents_opening : {File T E : Type 0} (bytes_of : File → Option (List ℕ)) (path bytes : List ℕ) (number : ℕ)
    (result : Result T E) (error : E)
    → IsRead bytes_of bytes
    → (IsUtf8 bytes → IsOk result) → result ≡ Err error → number ≡ book_why_number why.Toml → CannotOpenBook bytes_of path (BadBook number)
non_utf8_prevents_opening bytes_of path bytes number result error read all is numbered =
    inr (
      bytes,
      record { why = why.Toml; account = None },
      read,
      non_utf8_is_no_toml bytes (λ utf8. let there = rw is at all utf8 in cc there),
      ap
          (λ n. BadBook n) numbered,
    )
