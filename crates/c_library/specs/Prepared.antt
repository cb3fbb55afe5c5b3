-- The keys of an entry, prepared for HMAC (RFC 2104).
use Rattle.std.specs.Prelude.{take}
use Rattle.mac_core.specs.declared.mechanism.Mechanism.{Mechanism}
use Rattle.hmac_midstate.specs.Prepared.{IsPreparedFor}
use Rattle.hmac_midstate.specs.declared.prepared.PreparedKeys.{PreparedKeys}
use Rattle.c_library.specs.declared.entry.StoredEntry.{StoredEntry}

-- the prepared keys are those of the entry
pub record ArePreparedFor (mechanism : Mechanism) (prepared : PreparedKeys) (e : StoredEntry) : Type 0 where
  pub stored : IsPreparedFor mechanism prepared.stored (take e.key_len e.stored_key)
  pub server : IsPreparedFor mechanism prepared.server (take e.key_len e.server_key)
