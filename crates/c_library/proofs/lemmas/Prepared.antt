-- Prepared keys of an entry sign for its keys.
use Rattle.std.proofs.Common.{◌≡◌, ℕ, List, ◌==◌, Bool, true, false, take, refl, ◌∙◌, subst, if◌then◌else◌}
use Rattle.std.specs.declared.option.Option.{Option}
use Rattle.std.specs.declared.option.Option.TheVariants.{None, Some}
use Rattle.std.proofs.lemmas.Option.{same_Some}
use Rattle.mac_core.specs.declared.mechanism.Mechanism.{Mechanism}
use Rattle.scram_ends.specs.Entry.{Keys}
use Rattle.scram_ends.specs.SigningKeys.{StandFor}
use Rattle.hmac_midstate.specs.declared.prepared.PreparedKeys.{PreparedKeys}
use Rattle.scram_ends.specs.declared.signing_keys.KeyBytes.{KeyBytes}
use Rattle.c_library.specs.Entries.{keys_in}
use Rattle.c_library.specs.Prepared.{ArePreparedFor}
use Rattle.c_library.specs.inner.Parts.{ArePlain}
use Rattle.c_library.specs.inner.Prepared.{HasPrepared, PreparedStand, SignsFor}
use Rattle.c_library.specs.declared.entry.StoredEntry.{StoredEntry}
use Rattle.c_library.specs.declared.prepared.PreparedSigning.{PreparedSigning}

keys_if : (no_keys : Bool) (k keys : Keys) → (if no_keys then None else Some k) ≡ Some keys → k ≡ keys
keys_if true k keys e = cc
keys_if false k keys e = same_Some k keys e

-- keys that are prepared for an entry are those that it holds, prepared
pub has_prepared_keys : (m : Mechanism) (prepared : PreparedKeys) (e : StoredEntry) (keys : Keys) → ArePreparedFor m prepared e
    → keys_in e ≡ Some keys → HasPrepared m prepared keys
has_prepared_keys m prepared e keys are held =
    let of : Keys = record { stored = take e.key_len e.stored_key; server = take e.key_len e.server_key } in
    subst (λ (k : Keys). HasPrepared m prepared k) (keys_if (e.key_len == 0) of keys held)
    (record { stored = are.stored; server = are.server })

-- prepared keys stand for the keys of which they are made
pub prepared_keys_stand : (m : Mechanism) (prepared : PreparedKeys) (held : Option Keys) (signing : Option PreparedSigning)
    → PreparedStand m prepared held signing → ((keys : Keys) → held ≡ Some keys → HasPrepared m prepared keys)
    → StandFor (λ (s : PreparedSigning) (k : Mechanism) (keys : Keys). SignsFor s k keys) signing m held
prepared_keys_stand m prepared None None stand has = tt
prepared_keys_stand m prepared (Some keys) (Some signing) stand has = stand (has keys refl)
prepared_keys_stand m prepared None (Some signing) stand has = absurd stand
prepared_keys_stand m prepared (Some keys) None stand has = absurd stand

-- prepared keys, in place of plain keys
pub prepared_for_plain : (m : Mechanism) (held : Option Keys) (keys : Option KeyBytes) (bytes : KeyBytes) (signing : PreparedSigning)
    → ArePlain keys held → keys ≡ Some bytes → signing.stored.now ≡ bytes.stored.now
    → PreparedStand m signing.prepared.now held (Some signing)
prepared_for_plain m None keys bytes signing plain is stored = rw is at plain
prepared_for_plain m (Some held) keys bytes signing plain is stored = λ has.
    let same = rw is at plain in
    record { prepared = has; is_stored = stored ∙ same.0 }

-- no keys, in place of none
pub none_for_none : (m : Mechanism) (prepared : PreparedKeys) (held : Option Keys) (keys : Option KeyBytes) → ArePlain keys held
    → keys ≡ None → PreparedStand m prepared held None
none_for_none m prepared None keys plain is = tt
none_for_none m prepared (Some held) keys plain is = rw is at plain
