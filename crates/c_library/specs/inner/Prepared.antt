-- For which keys prepared keys sign.
use Rattle.std.specs.Prelude.{◌≡◌}
use Rattle.std.specs.declared.option.Option.{Option}
use Rattle.std.specs.declared.option.Option.TheVariants.{None, Some}
use Rattle.mac_core.specs.declared.mechanism.Mechanism.{Mechanism}
use Rattle.scram_ends.specs.Entry.{Keys}
use Rattle.hmac_midstate.specs.Prepared.{IsPreparedFor}
use Rattle.hmac_midstate.specs.declared.prepared.PreparedKeys.{PreparedKeys}
use Rattle.c_library.specs.declared.prepared.PreparedSigning.{PreparedSigning}

-- the prepared keys are these keys
pub record HasPrepared (mechanism : Mechanism) (prepared : PreparedKeys) (keys : Keys) : Type 0 where
  pub stored : IsPreparedFor mechanism prepared.stored keys.stored
  pub server : IsPreparedFor mechanism prepared.server keys.server

-- the prepared keys and StoredKey are these keys
pub record SignsFor (signing : PreparedSigning) (mechanism : Mechanism) (keys : Keys) : Type 0 where
  pub prepared : HasPrepared mechanism signing.prepared.now keys
  pub is_stored : signing.stored.now ≡ keys.stored

-- there are no keys; or prepared keys sign for the keys, if they are these keys prepared
abbrev pub PreparedStand : Mechanism → PreparedKeys → Option Keys → Option PreparedSigning → Type 0
PreparedStand mechanism prepared None None = Unit {0}
PreparedStand mechanism prepared (Some keys) (Some signing) = HasPrepared mechanism prepared keys → SignsFor signing mechanism keys
PreparedStand mechanism prepared None (Some signing) = ⊥
PreparedStand mechanism prepared (Some keys) None = ⊥
