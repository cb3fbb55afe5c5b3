-- What the command `unlock` changes and prints, and which faults end it.
use Rattle.std.specs.Prelude.{ℕ, ◌≡◌, ◌⊎◌, List, [], ◌∷◌, ◌++◌, codes, Option}
use Rattle.std.specs.Str.{byte}
use Rattle.std.specs.Io.KnownBytes.{Appends}
use Rattle.clap.specs.declared.parser.matches.ArgMatches.{ArgMatches}
use Rattle.scram_text.specs.Class.{IsPlainName}
use Rattle.account_book.specs.{BookFields}
use Rattle.account_book.specs.Accounts.{account_at}
use Rattle.account_book.specs.SavedBooks.{HasStoredText}
use Rattle.book_file.specs.Saved.{IsSavedText}
use Rattle.command_line.specs.declared.fault.Fault.{Fault}
use Rattle.command_line.specs.declared.fault.Fault.TheVariants.{CannotWriteOutput}
use Rattle.command_line.specs.declared.option_name.OptionName.TheVariants as option
use Rattle.command_words.specs.Values.{given_value, HasBadValue}
use Rattle.command_io.specs.HeldBook.{IsReadBook, IsTokenUnlocked, CannotOpenBook, IsTokenFault}

-- a book is read from a file, the token of the name that the words give is unlocked, and a text of the resulting book is written to
-- a file, as far as the contents of these files are known; and the name is printed
pub record UnlocksAsked {File : Type 0} (bytes_of written_to : File → Option (List ℕ)) (words : ArgMatches) (old new : Option (List ℕ))
    : Type 0 where
  pub name_range : IsPlainName (given_value words option.Name)
  pub text : List ℕ
  pub first : BookFields
  pub is_first : IsReadBook bytes_of text first
  pub last : BookFields
  pub is_unlocked : IsTokenUnlocked (given_value words option.Name) first last
  pub is_saved : HasStoredText (IsSavedText written_to) last
  pub printed : Appends old new (codes "unlocked " ++ (given_value words option.Name ++ byte "\n" ∷ []))

-- a book that was read has no token for the name, or can't be saved in the file of this path, or memory ran out: the fault says which
abbrev pub CannotUnlockToken : {File : Type 0} → (bytes_of : File → Option (List ℕ)) → (path name : List ℕ) → Fault → Type 0
CannotUnlockToken bytes_of path name fault =
    (text : List ℕ) × (book : BookFields) × IsReadBook bytes_of text book × IsTokenFault path (account_at book name) fault

-- the fault that ends `unlock`: an option refuses its value, the book can't be held or read, it has no token for the name or can't be
-- saved, the output can't be written, or memory ran out
abbrev pub CannotUnlock : {File : Type 0} → (bytes_of : File → Option (List ℕ)) → ArgMatches → Fault → Type 0
CannotUnlock bytes_of words fault =
    HasBadValue (option.Name ∷ []) words fault
    ⊎ (CannotOpenBook bytes_of (given_value words option.Book) fault
    ⊎ (CannotUnlockToken bytes_of (given_value words option.Book) (given_value words option.Name) fault ⊎ (fault ≡ CannotWriteOutput)))
