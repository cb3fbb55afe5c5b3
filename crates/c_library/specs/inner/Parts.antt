-- What an entry's parts are, where C keeps them.
use Rattle.std.specs.Prelude.{◌≡◌}
use Rattle.std.specs.declared.option.Option.{Option}
use Rattle.std.specs.declared.option.Option.TheVariants.{None, Some}
use Rattle.scram_ends.specs.Entry.{Keys}
use Rattle.scram_ends.specs.declared.signing_keys.KeyBytes.{KeyBytes}

-- the bytes are those of the keys, or there are none of both
abbrev pub ArePlain : Option KeyBytes → Option Keys → Type 0
ArePlain None None = Unit {0}
ArePlain (Some bytes) (Some keys) = (bytes.stored.now ≡ keys.stored) × (bytes.server.now ≡ keys.server)
ArePlain None (Some keys) = ⊥
ArePlain (Some bytes) None = ⊥
