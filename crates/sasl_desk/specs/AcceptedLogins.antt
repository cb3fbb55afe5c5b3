-- What clients are told of their logins: a login is answered by `S OK` if, and only if, it is valid.
use Rattle.std.specs.Prelude.{ℕ, ◌≡◌, List, ◌∷◌, ◌++◌}
use Rattle.log_grammar.specs.Lines.{LogLine, said, accepts, refuses}
use Rattle.log_grammar.specs.Demands.{Accounts}
use Rattle.log_grammar.specs.laws.Logins.{exchange_of, IsLoginTo, IsNoLogin, EndWithThreeMessages, CompletesLogin}

-- the lines begin with the outcome of a login with these three messages: `S OK` with a fourth that makes it valid, or `S NO`, if no fourth
-- makes it valid
abbrev pub BeginWithOutcome : Accounts → (mechanism client_first server_first client_final : List ℕ) → List LogLine → Type 0
BeginWithOutcome accounts mechanism client_first server_first client_final (said (accepts server_final) ∷ more) =
    (name : List ℕ) × IsLoginTo accounts mechanism name (exchange_of client_first server_first client_final server_final)
BeginWithOutcome accounts mechanism client_first server_first client_final (said (refuses text) ∷ more) =
    IsNoLogin accounts mechanism client_first server_first client_final
BeginWithOutcome accounts mechanism client_first server_first client_final lines = ⊥

-- in these lines, of one session or of sessions one after another, a login is answered by `S OK` if and only if it is valid
pub record LinesAcceptExactlyValid (accounts : Accounts) (lines : List LogLine) : Type 0 where
  -- directly before each `S OK` stand the first three messages of a login, which the message in this `S OK` makes valid
  pub accepted : (before : List LogLine) (server_final : List ℕ) (more : List LogLine)
      → lines ≡ before ++ said (accepts server_final) ∷ more → (name : List ℕ) × CompletesLogin accounts before server_final name
  -- directly after the first three messages of a login stands its outcome
  pub answered : (before more : List LogLine) (mechanism client_first server_first client_final : List ℕ) → lines ≡ before ++ more
      → EndWithThreeMessages before mechanism client_first server_first client_final
      → BeginWithOutcome accounts mechanism client_first server_first client_final more
