-- An entry in parts makes the same logins, openings and faults as the entry that a struct holds.
use Rattle.std.proofs.Common.{◌≡◌, ℕ, List, ◌∙◌}
use Rattle.std.specs.declared.option.Option.{Option}
use Rattle.std.specs.declared.option.Option.TheVariants.{None, Some}
use Rattle.mac_core.specs.declared.mechanism.Mechanism.{Mechanism}
use Rattle.scram_ends.specs.Entry.{Keys, Entry}
use Rattle.scram_ends.specs.Stages.{challenged_login}
use Rattle.scram_ends.specs.Opening.{Opening, IsOpening}
use Rattle.scram_ends.specs.First.{IsRecordedFault}
use Rattle.scram_ends.specs.SigningKeys.{StandFor}
use Rattle.scram_ends.specs.declared.recorded.RecordedFault.{RecordedFault}
use Rattle.scram_ends.specs.declared.recorded.RecordedFault.TheVariants.{First, NotThisChallenge}
use Rattle.scram_ends.specs.declared.signing_keys.KeyBytes.{KeyBytes}
use Rattle.c_library.specs.inner.Parts.{ArePlain}

-- plain keys stand for their bytes
pub plain_keys_stand : (bytes : Option KeyBytes) (m : Mechanism) (held : Option Keys) → ArePlain bytes held
    → StandFor (λ (b : KeyBytes) (k : Mechanism) (keys : Keys). (b.stored.now ≡ keys.stored) × (b.server.now ≡ keys.server)) bytes m held
plain_keys_stand None m None plain = tt
plain_keys_stand (Some bytes) m (Some keys) plain = plain
plain_keys_stand None m (Some keys) plain = absurd plain
plain_keys_stand (Some bytes) m None plain = absurd plain

-- the entry of these values
abbrev pub entry_from : (salt : List ℕ) → (count : ℕ) → (keys : Option Keys) → (act_as : List (List ℕ)) → Entry
entry_from salt count keys act_as = record { salt = salt; count = count; keys = keys; act_as = act_as }

-- entries of the same values make the same login
pub logins_are_same : (m k : Mechanism) (salt other : List ℕ) (count also : ℕ) (keys : Option Keys) (names others : List (List ℕ))
    (client_first server_first : List ℕ) → m ≡ k → salt ≡ other → count ≡ also → names ≡ others
    → challenged_login (entry_from salt count keys names) m client_first server_first
    ≡ challenged_login (entry_from other also keys others) k client_first server_first
logins_are_same m k salt other count also keys names others client_first server_first e f g h = cc

-- an opening of an entry is one of each with its salt and its count
pub opening_of_other : (e other : Entry) (client_first server_first : List ℕ) (o : Opening) → e.salt ≡ other.salt → e.count ≡ other.count
    → IsOpening e client_first server_first o → IsOpening other client_first server_first o
opening_of_other e other client_first server_first o salt count is = record {
  is_first = is.is_first;
  taken_up = is.taken_up;
  is_challenge = is.is_challenge;
  not_mandatory = is.not_mandatory;
  longer = is.longer;
  salt = is.salt ∙ salt;
  count = is.count ∙ count;
}

-- why two texts open no login of an entry is why they open none of an entry with its salt and its count
pub recorded_fault_of_other : (e other : Entry) (client_first server_first : List ℕ) (fault : RecordedFault)
    → other.salt ≡ e.salt → other.count ≡ e.count → IsRecordedFault e client_first server_first fault
    → IsRecordedFault other client_first server_first fault
recorded_fault_of_other e other client_first server_first (First fault) salt count is = is
recorded_fault_of_other e other client_first server_first NotThisChallenge salt count is =
    (is.0, λ o opens. is.1 o (opening_of_other other e client_first server_first o salt count opens))
