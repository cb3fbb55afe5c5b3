-- Keys that are ready for logins.
use Rattle.std.specs.Prelude.{◌≡◌}
use Rattle.mac_core.specs.declared.mechanism.Mechanism.{Mechanism}
use Rattle.scram_ends.specs.Entry.{Keys}
use Rattle.scram_ends.specs.declared.signing.ReadyKeys.{ReadyKeys}

-- they are these keys, for this mechanism
pub record AreOf (ready : ReadyKeys) (used : Mechanism) (keys : Keys) : Type 0 where
  pub mechanism : ready.mechanism ≡ used
  pub stored : ready.stored.items ≡ keys.stored
  pub server : ready.server.items ≡ keys.server
