-- A login that was challenged, as a session keeps it: by the server that waits for the client-final message.
use Rattle.std.specs.Prelude.{ℕ, List}
use Rattle.mac_core.specs.declared.mechanism.Mechanism.{Mechanism}
use Rattle.scram_ends.specs.Entry.{Entry}
use Rattle.scram_ends.specs.Stages.{Challenged, challenged_login}
use Rattle.scram_ends.specs.Standing.{StandsForChallenged}
use Rattle.scram_ends.specs.declared.server.ServerWait.{ServerWait}
use Rattle.log_grammar.specs.Demands.{Accounts}

-- the server that waits, the mechanism of the login, and the name of its account
pub record ChallengedLoginFields : Type 0 where
  pub server : ServerWait
  pub mechanism : Mechanism
  pub name : List ℕ

-- a login of these parts
abbrev pub challenged_login_of : ServerWait → Mechanism → List ℕ → ChallengedLoginFields
challenged_login_of server mechanism name = record { server = server; mechanism = mechanism; name = name }

-- the login to the account, with these two messages
abbrev pub login_of : Accounts → ChallengedLoginFields → (client_first server_first : List ℕ) → Challenged
login_of accounts waiting client_first server_first =
    challenged_login (accounts.entry waiting.mechanism waiting.name) waiting.mechanism client_first server_first

-- the server stands for some login with this mechanism
abbrev pub IsChallenging : ServerWait → Mechanism → Type 0
IsChallenging server mechanism =
    (entry : Entry) × (client_first : List ℕ) × (server_first : List ℕ)
    × StandsForChallenged server (challenged_login entry mechanism client_first server_first)
