-- A login at each of its stages. No value of this crate keeps a whole login: the contracts say which login it stands for.
use Rattle.std.specs.Prelude.{ℕ, List}
use Rattle.std.specs.declared.option.Option.{Option}
use Rattle.mac_core.specs.declared.mechanism.Mechanism.{Mechanism}
use Rattle.scram_ends.specs.Entry.{Entry}
use Rattle.scram_ends.specs.declared.client.Limits.{Limits}

-- a login that a client has started
pub record Started : Type 0 where
  -- the mechanism that it uses
  pub mechanism : Mechanism
  -- the iteration counts that it accepts
  pub limits : Limits
  -- the user's name, in plain bytes
  pub name : List ℕ
  -- the name that the user asks to act as, in plain bytes, if any
  pub authzid : Option (List ℕ)
  -- the client's own nonce
  pub nonce : List ℕ
  -- client-first-message, as it was sent
  pub client_first : List ℕ

-- a login that a server has challenged
pub record Challenged : Type 0 where
  -- the entry for the name and the mechanism
  pub entry : Entry
  -- the mechanism that the client uses
  pub mechanism : Mechanism
  -- client-first-message, as it was received
  pub client_first : List ℕ
  -- server-first-message, as it was sent
  pub server_first : List ℕ

-- a login whose challenge a client has answered
pub record Answered : Type 0 where
  -- the mechanism that it uses
  pub mechanism : Mechanism
  -- the user's password, in plain bytes
  pub password : List ℕ
  -- the user's name, in plain bytes
  pub name : List ℕ
  -- the name that the user asks to act as, in plain bytes, if any
  pub authzid : Option (List ℕ)
  -- the client's own nonce
  pub nonce : List ℕ
  -- client-first-message, as it was sent
  pub client_first : List ℕ
  -- server-first-message, as it was received
  pub server_first : List ℕ
  -- client-final-message, as it was sent
  pub client_final : List ℕ

-- the login of this client
abbrev pub started_login : Mechanism → Limits → (name : List ℕ) → (authzid : Option (List ℕ)) → (nonce client_first : List ℕ) → Started
started_login mechanism limits name authzid nonce client_first = record {
  mechanism = mechanism;
  limits = limits;
  name = name;
  authzid = authzid;
  nonce = nonce;
  client_first = client_first;
}

-- the login of this entry, with these two messages
abbrev pub challenged_login : Entry → Mechanism → (client_first server_first : List ℕ) → Challenged
challenged_login entry mechanism client_first server_first =
    record { entry = entry; mechanism = mechanism; client_first = client_first; server_first = server_first }

-- the login that was started, with this password and the two later messages
abbrev pub answered_login : Started → (password server_first client_final : List ℕ) → Answered
answered_login started password server_first client_final = record {
  mechanism = started.mechanism;
  password = password;
  name = started.name;
  authzid = started.authzid;
  nonce = started.nonce;
  client_first = started.client_first;
  server_first = server_first;
  client_final = client_final;
}
