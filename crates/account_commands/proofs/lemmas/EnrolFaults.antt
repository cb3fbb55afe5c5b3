-- The faults that end `enrol`.
use Rattle.std.proofs.Common.{◌≡◌, ◌⊎◌, inl, inr, ℕ, List, Option, refl, sym, subst, ap, ◌∙◌}
use Rattle.std.specs.Prelude.{None, Some, true, false, is_some, MatchOption}
use Rattle.clap.specs.declared.parser.matches.ArgMatches.{ArgMatches}
use Rattle.account_book.specs.{AccountFields, BookFields}
use Rattle.account_book.specs.Accounts.{account_at}
use Rattle.command_io.specs.File.{IsFileUnwrittenOrNoMemory}
use Rattle.command_line.specs.declared.fault.Fault.{Fault}
use Rattle.command_line.specs.declared.fault.Fault.TheVariants.{NameTaken, NoMemory}
use Rattle.command_line.specs.declared.option_name.OptionName.TheVariants as option
use Rattle.command_words.specs.Values.{given_value}
use Rattle.command_io.specs.HeldBook.{IsReadBook}
use Rattle.account_commands.specs.Enrol.{CannotBeChanged, CannotEnrol, IsOfFile, IsNameTaken, IsReadOrMade, IsThisOrReadBook}

-- if an account was not added and saved, the fault is that its name is taken, or that the book can't be changed
unadded_account_has_reason : {File Other : Type 0} (bytes_of : File → Option (List ℕ)) (path name : List ℕ) (this book : BookFields)
    (found : Option AccountFields) (fault : Fault) → account_at book name ≡ found → IsThisOrReadBook bytes_of this book
    → (Other → IsFileUnwrittenOrNoMemory path fault) → MatchOption found Other (λ account. fault ≡ NameTaken)
    → IsNameTaken (IsThisOrReadBook bytes_of this) name fault
    ⊎ CannotBeChanged bytes_of path fault
unadded_account_has_reason bytes_of path name this book None fault is there unwritten other = inr (inr (unwritten other))
unadded_account_has_reason bytes_of path name this book (Some account) fault is there unwritten taken =
    inl (taken, book, there, ap is_some is)

-- if an account was not added to the book that was seen, its name is taken or the book can't be changed
pub failed_adding_has_reason : {File : Type 0} (bytes_of : File → Option (List ℕ)) (path name : List ℕ) (this : BookFields) (fault : Fault)
    → MatchOption (account_at this name) (fault ≡ NoMemory) (λ account. fault ≡ NameTaken)
    → IsNameTaken (IsThisOrReadBook bytes_of this) name fault ⊎ CannotBeChanged bytes_of path fault
failed_adding_has_reason bytes_of path name this fault other =
    unadded_account_has_reason bytes_of path name this this (account_at this name) fault refl (inl refl)
    (λ memory. subst (IsFileUnwrittenOrNoMemory path) (sym memory) refl) other

-- if an account was not added to the book that was read from its file, its name is taken or the book can't be changed
pub failed_saving_has_reason : {File : Type 0} (bytes_of : File → Option (List ℕ)) (path name text : List ℕ) (this book : BookFields)
    (fault : Fault)
    → IsReadBook bytes_of text book → MatchOption (account_at book name) (IsFileUnwrittenOrNoMemory path fault)
    (λ account. fault ≡ NameTaken)
    → IsNameTaken (IsThisOrReadBook bytes_of this) name fault ⊎ CannotBeChanged bytes_of path fault
failed_saving_has_reason bytes_of path name text this book fault read other =
    unadded_account_has_reason bytes_of path name this book (account_at book name) fault refl (inr (text, read))
    (λ unwritten. unwritten) other

-- a name that is taken in a book, new or read, is taken in one that was read: a new book has no accounts
book_with_name_was_read : {File : Type 0} (bytes_of : File → Option (List ℕ)) (old new : Option (List ℕ)) (name : List ℕ)
    (this book : BookFields)
    → IsReadOrMade bytes_of old new this → IsThisOrReadBook bytes_of this book → is_some (account_at book name) ≡ true
    → IsOfFile bytes_of book
book_with_name_was_read bytes_of old new name this book known (inr read) taken = read
book_with_name_was_read bytes_of old new name this book (inl (read, same)) (inl is) taken = subst (IsOfFile bytes_of) (sym is) read
book_with_name_was_read bytes_of old new name this book (inr (key, long, lost, made)) (inl is) taken =
    let none : false ≡ true = sym (ap (λ (b : BookFields). is_some (account_at b name)) (is ∙ made)) ∙ taken in absurd (cc none)

-- if an account was not added and saved, the fault is one that ends `enrol`
pub unsaved_account_ends_enrol : {File : Type 0} (bytes_of : File → Option (List ℕ)) (old new input : Option (List ℕ)) (words : ArgMatches)
    (path name : List ℕ) (book : BookFields) (fault : Fault) → path ≡ given_value words option.Book → name ≡ given_value words option.Name
    → IsReadOrMade bytes_of old new book → IsNameTaken (IsThisOrReadBook bytes_of book) name fault ⊎ CannotBeChanged bytes_of path fault
    → CannotEnrol bytes_of words input fault
unsaved_account_ends_enrol bytes_of old new input words path name book fault at named known (inl (is, first, where_from, taken)) =
    let read = book_with_name_was_read bytes_of old new name book first known where_from taken in
    inr (inl (is, first, read, subst (λ (n : List ℕ). is_some (account_at first n) ≡ true) named taken))
unsaved_account_ends_enrol bytes_of old new input words path name book fault at named known (inr unchanged) =
    inr (inr (inl (subst (λ (p : List ℕ). CannotBeChanged bytes_of p fault) at unchanged)))
