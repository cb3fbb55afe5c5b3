-- The entry that a struct of C holds, and the demands of it.
use Rattle.std.specs.Prelude.{ℕ, ◌≡◌, ◌≤◌, ◌⊎◌, ◌==◌, if◌then◌else◌, List, [], ◌∷◌, ◌++◌, length, take}
use Rattle.std.specs.Str.{byte}
use Rattle.std.specs.declared.option.Option.{Option}
use Rattle.std.specs.declared.option.Option.TheVariants.{None, Some}
use Rattle.mac_core.specs.Mechanism.{digest_len_by, hmac_by, name_of, password_stored_key_by, password_server_key_by}
use Rattle.mac_core.specs.declared.mechanism.Mechanism.{Mechanism}
use Rattle.mac_core.specs.declared.mechanism.Mechanism.TheVariants.{ScramSha256}
use Rattle.scram_text.specs.Limits.{max_salt_len}
use Rattle.scram_text.specs.Class.{IsPassword, IsPlainName, IsSalt}
use Rattle.scram_ends.specs.Entry.{Entry, Keys, password_keys}
use Rattle.c_library.specs.Buffers.{IsPadded}
use Rattle.c_library.specs.Demands.{Demand, demand}
use Rattle.c_library.specs.Numbers.{mechanism_number}
use Rattle.c_library.specs.declared.entry.StoredEntry.{StoredEntry}

-- no mechanism has this number
abbrev pub IsNoMechanism : ℕ → Type 0
IsNoMechanism number = (mechanism : Mechanism) → number ≡ mechanism_number mechanism → ⊥

-- the keys that the struct holds; a decoy has none
abbrev pub keys_in : StoredEntry → Option Keys
keys_in e =
    if e.key_len == 0 then None
    else Some (record { stored = take e.key_len e.stored_key; server = take e.key_len e.server_key })

-- the entry that the struct holds, with these names to act as
abbrev pub entry_in : StoredEntry → (act_as : List (List ℕ)) → Entry
entry_in e act_as = record { salt = take e.salt_len e.salt; count = e.count; keys = keys_in e; act_as = act_as }

-- the struct has a salt of 1 to 64 bytes
abbrev pub HasSalt : StoredEntry → Type 0
HasSalt e = (1 ≤ e.salt_len) × (e.salt_len ≤ max_salt_len)

-- the struct has no keys, or keys of the length of the mechanism's digests
abbrev pub HasKeyLength : Mechanism → StoredEntry → Type 0
HasKeyLength mechanism e = (e.key_len ≡ 0) ⊎ (e.key_len ≡ digest_len_by mechanism)

-- what is demanded of a struct
abbrev pub entry_demands : Mechanism → StoredEntry → List Demand
entry_demands mechanism e = demand 65 (1 ≤ e.count) ∷ demand 64 (HasSalt e) ∷ demand 66 (HasKeyLength mechanism e) ∷ []

-- what is demanded for the keys of a password
abbrev pub keys_demands : (count : ℕ) → (salt password : List ℕ) → List Demand
keys_demands count salt password = demand 65 (1 ≤ count) ∷ demand 64 (IsSalt salt) ∷ demand 91 (IsPassword password) ∷ []

-- the struct has these lengths, and its buffers have the salt and the keys and then zeros
pub record IsFilled (e : StoredEntry) (salt stored server : List ℕ) : Type 0 where
  pub is_salt_len : e.salt_len ≡ length salt
  pub is_key_len : e.key_len ≡ length stored
  pub is_salt : IsPadded 64 e.salt salt
  pub is_stored_key : IsPadded 64 e.stored_key stored
  pub is_server_key : IsPadded 64 e.server_key server

-- the struct holds the entry of this password for the mechanism, and zeros after it
pub record IsEntryOfPassword (mechanism : Mechanism) (count : ℕ) (salt password : List ℕ) (e : StoredEntry) : Type 0 where
  pub is_mechanism : e.mechanism ≡ mechanism_number mechanism
  pub is_entry : entry_in e []
      ≡ record { salt = salt; count = count; keys = Some (password_keys mechanism password salt count); act_as = [] }
  pub is_filled : IsFilled e salt (password_stored_key_by mechanism password salt count) (password_server_key_by mechanism password salt count)

-- what is demanded for a decoy
abbrev pub decoy_demands : (count : ℕ) → (name : List ℕ) → List Demand
decoy_demands count name = demand 65 (1 ≤ count) ∷ demand 63 (IsPlainName name) ∷ []

-- the salt of the decoy of a name: the first 16 bytes of HMAC-SHA-256 with the decoy key over the mechanism's name, a NUL and the name
abbrev pub decoy_salt : (key : List ℕ) → Mechanism → (name : List ℕ) → List ℕ
decoy_salt key mechanism name = take 16 (hmac_by ScramSha256 key (name_of mechanism ++ byte "\0" ∷ name))

-- the struct holds the decoy of this name for the mechanism, and zeros after it
pub record IsDecoyOf (key : List ℕ) (mechanism : Mechanism) (count : ℕ) (name : List ℕ) (e : StoredEntry) : Type 0 where
  pub is_mechanism : e.mechanism ≡ mechanism_number mechanism
  pub is_entry : entry_in e [] ≡ record { salt = decoy_salt key mechanism name; count = count; keys = None; act_as = [] }
  pub is_filled : IsFilled e (decoy_salt key mechanism name) [] []
