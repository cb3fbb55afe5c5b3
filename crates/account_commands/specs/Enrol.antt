-- What the command `enrol` adds to a book, and what it prints.
use Rattle.std.specs.Prelude.{ℕ, ◌≡◌, ◌⊎◌, List, [], ◌∷◌, ◌++◌, length, true, is_some, codes, Option}
use Rattle.std.specs.Fmt.{decimal}
use Rattle.std.specs.Io.KnownBytes.{Appends, Consumes}
use Rattle.std.specs.Str.{byte}
use Rattle.clap.specs.declared.parser.matches.ArgMatches.{ArgMatches}
use Rattle.mac_core.specs.Mechanism.{digest_len_by}
use Rattle.mac_core.specs.declared.mechanism.Mechanism.TheVariants.{ScramSha256}
use Rattle.scram_text.specs.Class.{IsPassword, IsPlainName}
use Rattle.scram_text.specs.Parts.{IsCount}
use Rattle.account_book.specs.{BookFields}
use Rattle.account_book.specs.Accounts.{account_at}
use Rattle.account_book.specs.SavedBooks.{HasStoredText}
use Rattle.account_book.specs.View.{decoy_salt_len}
use Rattle.book_file.specs.Saved.{IsSavedText}
use Rattle.command_line.specs.declared.fault.Fault.{Fault}
use Rattle.command_line.specs.declared.fault.Fault.TheVariants.{NameTaken, CannotWriteOutput}
use Rattle.command_line.specs.declared.option_name.OptionName.TheVariants as option
use Rattle.command_words.specs.Values.{given_value, HasBadValue}
use Rattle.command_io.specs.File.{IsFileUnreadOrNoMemory, IsFileUnwrittenOrNoMemory}
use Rattle.command_io.specs.HeldBook.{IsEnrolled, IsReadBook, CannotOpenBook}
use Rattle.command_io.specs.Input.{IsFirstLine, IsInputUnreadOrNoMemory, HasBadPassword}
use Rattle.command_io.specs.declared.new_account.NewAccount.{NewAccount}
use Rattle.command_io.specs.declared.new_account.Salts.{Salts}

-- the iterations of the decoys of a new book: as many as `enrol` makes keys with if no `--count` is given (`enrol_options`)
abbrev pub default_count : ℕ
default_count = 4096

-- a new book: it has no accounts, and its decoys have this key
abbrev pub new_book : (decoy_key : List ℕ) → BookFields
new_book decoy_key = record { decoy_key = decoy_key; decoy_count = default_count; accounts = [] }

-- the book was read from a file, if what the file has is known
abbrev pub IsOfFile : {File : Type 0} → (bytes_of : File → Option (List ℕ)) → BookFields → Type 0
IsOfFile bytes_of book = (text : List ℕ) × IsReadBook bytes_of text book

-- the book was read from a file, and no bytes are taken from the source of random bytes; or it is a new one, whose key is the next bytes
-- of the source, as many as a digest of SHA-256 has
abbrev pub IsReadOrMade : {File : Type 0} → (bytes_of : File → Option (List ℕ)) → (old new : Option (List ℕ)) → BookFields → Type 0
IsReadOrMade bytes_of old new book =
    (IsOfFile bytes_of book × (new ≡ old))
    ⊎ ((decoy_key : List ℕ) × (length decoy_key ≡ digest_len_by ScramSha256) × Consumes old new decoy_key × (book ≡ new_book decoy_key))

-- a source of random bytes gives two salts, each as long as a decoy's, one after the other: no byte is in both
pub record TakesSalts (old : Option (List ℕ)) (salts : Salts) (new : Option (List ℕ)) : Type 0 where
  pub length_sha1 : length salts.sha1 ≡ decoy_salt_len
  pub length_sha256 : length salts.sha256 ≡ decoy_salt_len
  pub taken : Consumes old new (salts.sha1 ++ salts.sha256)

-- the book is this one, or was read from a file since
abbrev pub IsThisOrReadBook : {File : Type 0} → (bytes_of : File → Option (List ℕ)) → (this book : BookFields) → Type 0
IsThisOrReadBook bytes_of this book = (book ≡ this) ⊎ IsOfFile bytes_of book

-- an account with the keys of a password is added to a book, which is this one or was read from a file since, and a text of the
-- resulting book is written to a file; what files have is known only where `IsOfFile` and `IsSavedText` say so
pub record SavesAccount {File : Type 0} (bytes_of written_to : File → Option (List ℕ)) (this : BookFields) (account : NewAccount)
    (salts : Salts) : Type 0 where
  pub first : BookFields
  pub is_first : IsThisOrReadBook bytes_of this first
  pub last : BookFields
  pub is_enrolled : IsEnrolled account salts first last
  pub is_saved : HasStoredText (IsSavedText written_to) last

-- an account is added to a book that was read or is new, with the next random bytes as salts, and saved; `old`, `middle` and `new` are
-- what the source of random bytes has left before, once the book is there, and after
pub record AddsAccount {File : Type 0} (bytes_of written_to : File → Option (List ℕ)) (account : NewAccount) (old new : Option (List ℕ))
    : Type 0 where
  pub book : BookFields
  pub middle : Option (List ℕ)
  pub is_there : IsReadOrMade bytes_of old middle book
  pub salts : Salts
  pub are_taken : TakesSalts middle salts new
  pub saved : SavesAccount bytes_of written_to book account salts

-- the account that the words and the first line of the input describe is added to a book
pub record EnrolsAsked {File : Type 0} (bytes_of written_to : File → Option (List ℕ)) (words : ArgMatches)
    (input old new : Option (List ℕ)) : Type 0 where
  -- the account has the name and the iteration count that the words give, and the first line of the input as password
  pub account : NewAccount
  pub is_name : account.name ≡ given_value words option.Name
  pub name_range : IsPlainName account.name
  pub is_first_line : IsFirstLine input account.password
  pub is_password : IsPassword account.password
  pub is_count : given_value words option.Count ≡ decimal account.count
  pub count_range : IsCount account.count
  -- it is added to a book, with random bytes from a file
  pub file : File
  pub after : File
  pub is_added : AddsAccount bytes_of written_to account (bytes_of file) (bytes_of after)
  -- the name is printed
  pub printed : Appends old new (codes "enrolled " ++ (account.name ++ byte "\n" ∷ []))

-- the words and the input describe no account: an option refuses its value, the first line is not a password or
-- can't be read, or memory ran out
abbrev pub DescribesNoAccount : ArgMatches → (input : Option (List ℕ)) → Fault → Type 0
DescribesNoAccount words input fault =
    HasBadValue (option.Name ∷ option.Count ∷ []) words fault ⊎ (HasBadPassword input fault ⊎ IsInputUnreadOrNoMemory fault)

-- the name is taken in such a book
abbrev pub IsNameTaken : (Is : BookFields → Type 0) → (name : List ℕ) → Fault → Type 0
IsNameTaken Is name fault = (fault ≡ NameTaken) × (book : BookFields) × Is book × (is_some (account_at book name) ≡ true)

-- the book at this path can't be held, read or saved, or memory ran out
abbrev pub CannotBeChanged : {File : Type 0} → (bytes_of : File → Option (List ℕ)) → (path : List ℕ) → Fault → Type 0
CannotBeChanged bytes_of path fault = CannotOpenBook bytes_of path fault ⊎ IsFileUnwrittenOrNoMemory path fault

-- the fault that ends `enrol`: no account is described, the name is taken in a book that was read, the book can't be held, read or saved,
-- the file of random bytes can't be read, the output can't be written, or memory ran out
abbrev pub CannotEnrol : {File : Type 0} → (bytes_of : File → Option (List ℕ)) → ArgMatches → (input : Option (List ℕ)) → Fault → Type 0
CannotEnrol bytes_of words input fault =
    DescribesNoAccount words input fault
    ⊎ (IsNameTaken (IsOfFile bytes_of) (given_value words option.Name) fault
    ⊎ (CannotBeChanged bytes_of (given_value words option.Book) fault
    ⊎ (IsFileUnreadOrNoMemory (given_value words option.Random) fault ⊎ (fault ≡ CannotWriteOutput))))
