-- The log of the desk that serves a login.
use Rattle.std.specs.Prelude.{ℕ, ◌≡◌, true, List, [], ◌∷◌, ◌++◌, IfSome}
use Rattle.std.specs.List.{AllByRecursion}
use Rattle.std.specs.Io.KnownBytes.{Appends}
use Rattle.std.specs.declared.option.Option.{Option}
use Rattle.account_book.specs.{BookFields}
use Rattle.account_book.specs.Store.{StoreFacts}
use Rattle.log_grammar.specs.Books.{accounts_in}
use Rattle.log_grammar.specs.Demands.{Accounts}
use Rattle.log_grammar.specs.Lines.{LogLine, said, halt, log_bytes}
use Rattle.log_grammar.specs.Places.{Place}
use Rattle.sasl_desk.specs.Runs.{Request, greets, hears, Call, run_lines, IsRun}
use Rattle.sasl_desk.specs.Saved.{IsLogSaved}

-- a moment is the one that was given, if one was
abbrev pub IsGiven : (given : Option ℕ) → (moment : ℕ) → Type 0
IsGiven given moment = IfSome given (λ given_moment. moment ≡ given_moment)

-- if a desk is asked to begin a session, this is the server's part of the nonce; if it hears its client, `IsNow` is true of the moment
abbrev pub IsRequestWith : (server_nonce : List ℕ) → (IsNow : ℕ → Type 0) → Request → Type 0
IsRequestWith server_nonce IsNow (greets part) = part ≡ server_nonce
IsRequestWith server_nonce IsNow (hears event moment) = IsNow moment

-- the log is that of a desk over these accounts, which began each session with this server's part of the nonce, and heard its
-- client at moments of which `IsNow` is true. So by `IsRun` each challenge has that part, and each reply has such a moment.
pub record IsRunLog (accounts : Accounts) (server_nonce : List ℕ) (IsNow : ℕ → Type 0) (log : List ℕ) : Type 0 where
  pub calls : List Call
  pub place : Place
  pub is_run : IsRun accounts calls place
  pub requests : AllByRecursion (λ call. IsRequestWith server_nonce IsNow call.request) calls
  pub is_log : log ≡ log_bytes (run_lines calls)

-- what was there before is followed by a log of this kind, for example a clean one, judged by the accounts of a book. It is the log
-- of a desk with this part of the nonce and moments of which `IsNow` is true; the replies in it are saved in the store; and after a save
-- that failed its last line is `S HALT`.
abbrev pub HasSavedLog : (IsStored : List ℕ → Type 0) → (IsNow : ℕ → Type 0) → (IsOfKind : Accounts → List ℕ → Type 0) → BookFields
    → (server_nonce : List ℕ) → StoreFacts → (before after : Option (List ℕ)) → Type 0
HasSavedLog IsStored IsNow IsOfKind book server_nonce store before after =
    (log : List ℕ) × IsOfKind (accounts_in book) log × IsRunLog (accounts_in book) server_nonce IsNow log × Appends before after log
    × IsLogSaved IsStored book log store
    × (store.failed ≡ true → (before : List LogLine) × (log ≡ log_bytes (before ++ said halt ∷ [])))
