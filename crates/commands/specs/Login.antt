-- What the command `login` prints, and whether the user is let in and each code passes.
use Rattle.std.specs.Prelude.{ℕ, ◌≡◌, ◌⊎◌, Bool, false, List, [], ◌∷◌, option_map, IfSome}
use Rattle.std.specs.Fmt.{decimal}
use Rattle.std.specs.Io.KnownBytes.{Appends}
use Rattle.std.specs.declared.option.Option.{Option}
use Rattle.clap.specs.declared.parser.matches.ArgMatches.{ArgMatches}
use Rattle.scram_text.specs.Class.{IsPassword, IsPlainName}
use Rattle.scram_ends.specs.{name_of}
use Rattle.account_book.specs.{BookFields}
use Rattle.account_book.specs.Store.{StoreFacts}
use Rattle.book_file.specs.Saved.{IsSavedText}
use Rattle.command_line.specs.declared.option_name.OptionName.TheVariants as option
use Rattle.command_words.specs.Values.{value_of, given_value}
use Rattle.log_grammar.specs.Demands.{Accounts}
use Rattle.log_grammar.specs.Lines.{log_bytes, header_one}
use Rattle.log_grammar.specs.Versions.{IsClean, IsLogFront}
use Rattle.sasl_desk.specs.{IsMoment}
use Rattle.command_io.specs.HeldBook.{IsReadBook}
use Rattle.command_io.specs.Input.{TakesLine}
use Rattle.commands.specs.ClientEnd.{IsLoggedIn, IsNotLoggedIn}
use Rattle.commands.specs.Nonces.{AreNonces}
use Rattle.commands.specs.Talked.{Talked, LogSays}
use Rattle.commands.specs.declared.login.client_end.User.{User}
use Rattle.commands.specs.DeskLog.{IsGiven, HasSavedLog}
use Rattle.commands.specs.SentCodes.{SendsCodes}

-- the client is not logged in; or it is, and then sends the lines of its input. `passed` says whether it is logged in and each line passes.
abbrev pub LogsInAndSends : User → (nonce password : List ℕ) → (input : Option (List ℕ)) → (old : Talked) → (passed : Bool) → (new : Talked)
    → Type 0
LogsInAndSends user nonce password input old passed new =
    ((passed ≡ false) × IsNotLoggedIn user nonce password old new)
    ⊎ ((middle : Talked) × IsLoggedIn user nonce password old middle × SendsCodes input middle passed new)

-- the client logs in, or does not, and sends its lines if it is logged in; and then the server sends nothing more
pub record EndsTalk (user : User) (nonce password : List ℕ) (input : Option (List ℕ)) (old : Talked) (passed : Bool) (new : Talked)
    : Type 0 where
  pub last : Talked
  pub sends : LogsInAndSends user nonce password input old passed last
  pub ends : LogSays last.logged new.logged []

-- a log is printed: its first line, and then a talk in which the client of this user logs in, with this nonce and this password, or does
-- not, and sends the lines of the input if it is logged in
pub record PrintsTalk (user : User) (nonce password : List ℕ) (input old : Option (List ℕ)) (passed : Bool) (new : Option (List ℕ))
    : Type 0 where
  pub first : Talked
  pub last : Talked
  pub begins : Appends old first.logged (log_bytes (header_one ∷ []))
  pub talk : EndsTalk user nonce password input first passed last
  pub printed : last.logged ≡ new

-- the user whom the words describe: the name, and, if they give them, the name to act as and the mechanism
pub record IsUserAsked (words : ArgMatches) (user : User) : Type 0 where
  pub is_name : user.name ≡ given_value words option.Name
  pub name_range : IsPlainName user.name
  pub is_authzid : user.authzid ≡ value_of words option.As
  pub authzid_range : IfSome user.authzid IsPlainName
  pub is_mechanism : option_map name_of user.mechanism ≡ value_of words option.Mechanism

-- `PrintsTalk` is true of what the words and the input ask for, with this nonce of the client
pub record PrintsTalkAsked (words : ArgMatches) (nonce : List ℕ) (input old : Option (List ℕ)) (passed : Bool) (new : Option (List ℕ))
    : Type 0 where
  -- the user is the one whom the words describe
  pub user : User
  pub is_user : IsUserAsked words user
  -- the password is the first line of the input
  pub password : List ℕ
  pub has_lf : Bool
  pub rest : Option (List ℕ)
  pub is_first_line : TakesLine input password has_lf rest
  pub is_password : IsPassword password
  pub talk : PrintsTalk user nonce password rest old passed new

-- a log of this kind, for example a clean one, is printed, in which this is the server's part of the nonce
pub record PrintsLogin {File : Type 0} (bytes_of written_to : File → Option (List ℕ)) (words : ArgMatches) (server_nonce : List ℕ)
    (IsOfKind : Accounts → List ℕ → Type 0) (old new : Option (List ℕ)) : Type 0 where
  -- it is judged by a book that was read from a file
  pub text : List ℕ
  pub book : BookFields
  pub is_read : IsReadBook bytes_of text book
  -- each moment is the one that the words give, if they give one
  pub moment : Option ℕ
  pub is_moment : option_map decimal moment ≡ value_of words option.Moment
  pub moment_range : IfSome moment IsMoment
  -- a text of the book to which the replies in the log lead was written to a file; what the store then holds, and that it is the
  -- run's, is in the contract of `talk_over`
  pub store : StoreFacts
  pub printed : HasSavedLog (IsSavedText written_to) (IsGiven moment) IsOfKind book server_nonce store old new

-- what a login prints, given the bytes of files and those written to them
module _ {File : Type 0} (bytes_of written_to : File → Option (List ℕ)) where
  -- a clean log is printed, with nonces that the words give or that were read (`AreNonces`). It is that of a login that the words ask
  -- for, with these nonces. `passed` says whether it shows that the login is accepted and each code passes.
  abbrev pub RunsLogin : ArgMatches → (input old : Option (List ℕ)) → (passed : Bool) → (new : Option (List ℕ)) → Type 0
  RunsLogin words input old passed new =
      (nonce : List ℕ) × (server_nonce : List ℕ) × AreNonces bytes_of words nonce server_nonce
      × PrintsLogin bytes_of written_to words server_nonce IsClean old new × PrintsTalkAsked words nonce input old passed new

  -- a front of a log is printed, with nonces that the words give or that were read (`AreNonces`)
  abbrev pub PrintsLoginFront : ArgMatches → (old new : Option (List ℕ)) → Type 0
  PrintsLoginFront words old new =
      (nonce : List ℕ) × (server_nonce : List ℕ) × AreNonces bytes_of words nonce server_nonce
      × PrintsLogin bytes_of written_to words server_nonce IsLogFront old new
