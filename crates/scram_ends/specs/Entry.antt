-- What a server keeps under a name for one mechanism, and what both ends make of a password.
use Rattle.std.specs.Prelude.{ℕ, List, option_map}
use Rattle.std.specs.declared.option.Option.{Option}
use Rattle.mac_core.specs.Mechanism.{password_stored_key_by, password_server_key_by}
use Rattle.mac_core.specs.declared.mechanism.Mechanism.{Mechanism}
use Rattle.mac_core.specs.declared.keys.ScramKeys.{ScramKeys}
use Rattle.scram_ends.specs.declared.keys_view.KeysView.{KeysView}

-- StoredKey and ServerKey (RFC 5802, section 3)
pub record Keys : Type 0 where
  pub stored : List ℕ
  pub server : List ℕ

-- what a server keeps under a name for one mechanism: an account's keys, or a decoy, which stands in for a name without keys
pub record Entry : Type 0 where
  pub salt : List ℕ
  pub count : ℕ
  -- an account's keys; a decoy has none
  pub keys : Option Keys
  -- the other names that the account may act as
  pub act_as : List (List ℕ)

-- the bytes of the keys
abbrev pub keys_of : ScramKeys → Keys
keys_of keys = record { stored = keys.stored.items; server = keys.server.items }

-- the entry that a view shows
abbrev pub entry_of : KeysView → Entry
entry_of view = record { salt = view.salt; count = view.count; keys = option_map keys_of view.keys; act_as = view.act_as.now }

-- the keys of a password (RFC 5802, section 3)
abbrev pub password_keys : Mechanism → (password salt : List ℕ) → (count : ℕ) → Keys
password_keys m password salt count =
    record { stored = password_stored_key_by m password salt count; server = password_server_key_by m password salt count }
