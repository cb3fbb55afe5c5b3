-- Verifiers: an account's keys as PostgreSQL and Dovecot spell them.
use Rattle.std.specs.Prelude.{ℕ, ◌≡◌, ◌≤◌, List, [], ◌∷◌, ◌++◌, length, take, codes, decimal}
use Rattle.std.specs.Str.{byte}
use Rattle.mac_core.specs.Mechanism.{digest_len_by, name_of}
use Rattle.mac_core.specs.declared.mechanism.Mechanism.{Mechanism}
use Rattle.scram_text.specs.Base64Field.{base64, IsField}
use Rattle.scram_text.specs.Limits.{max_salt_len}
use Rattle.scram_text.specs.Parts.{IsCount}
use Rattle.c_library.specs.Demands.{Demand, demand}
use Rattle.c_library.specs.Entries.{IsFilled, entry_demands}
use Rattle.c_library.specs.Numbers.{mechanism_number}
use Rattle.c_library.specs.declared.entry.StoredEntry.{StoredEntry}
use Rattle.c_library.specs.declared.verifier.Spelling.{Spelling}
use Rattle.c_library.specs.declared.verifier.Spelling.TheVariants.{Postgres, Dovecot}

-- the number of a spelling
abbrev pub spelling_number : Spelling → ℕ
spelling_number Postgres = 1
spelling_number Dovecot = 2

-- no spelling has this number
abbrev pub IsNoSpelling : ℕ → Type 0
IsNoSpelling number = (s : Spelling) → number ≡ spelling_number s → ⊥

-- what a verifier of the mechanism begins with: `SCRAM-SHA-256$` in PostgreSQL, `{SCRAM-SHA-256}` in Dovecot
abbrev pub scheme : Spelling → Mechanism → List ℕ
scheme Postgres mechanism = name_of mechanism ++ codes "$"
scheme Dovecot mechanism = codes "{" ++ name_of mechanism ++ codes "}"

-- the byte after the count and between the keys
abbrev pub outer : Spelling → ℕ
outer Postgres = byte ":"
outer Dovecot = byte ","

-- the byte between the salt and the keys
abbrev pub inner : Spelling → ℕ
inner Postgres = byte "$"
inner Dovecot = byte ","

-- four fields in a verifier
abbrev pub fields_text : Spelling → (count salt stored server : List ℕ) → List ℕ
fields_text s count salt stored server = count ++ outer s ∷ salt ++ inner s ∷ stored ++ outer s ∷ server

-- the verifier of these keys: `SCRAM-SHA-256$COUNT:SALT$STORED:SERVER`, or `{SCRAM-SHA-256}COUNT,SALT,STORED,SERVER`
abbrev pub verifier_text : Spelling → Mechanism → (count : ℕ) → (salt stored server : List ℕ) → List ℕ
verifier_text s mechanism count salt stored server =
    scheme s mechanism ++ fields_text s (decimal count) (base64 salt) (base64 stored) (base64 server)

-- the text is the verifier of these keys, which are keys of the mechanism
pub record IsVerifier (text : List ℕ) (s : Spelling) (mechanism : Mechanism) (count : ℕ) (salt stored server : List ℕ) : Type 0 where
  pub spelled : text ≡ verifier_text s mechanism count salt stored server
  pub is_count : IsCount count
  pub is_salt : IsField max_salt_len salt
  pub is_stored : IsField (digest_len_by mechanism) stored × (length stored ≡ digest_len_by mechanism)
  pub is_server : IsField (digest_len_by mechanism) server × (length server ≡ digest_len_by mechanism)

-- the text has to be a verifier
abbrev pub is_verifier : (text : List ℕ) → Demand
is_verifier text = demand 96
    ((s : Spelling) × (mechanism : Mechanism) × (count : ℕ) × (salt : List ℕ) × (stored : List ℕ) × (server : List ℕ)
    × IsVerifier text s mechanism count salt stored server)

-- the struct holds the keys of which the text is the verifier
pub record IsRead (text : List ℕ) (e : StoredEntry) : Type 0 where
  pub spelling : Spelling
  pub mechanism : Mechanism
  pub salt : List ℕ
  pub stored : List ℕ
  pub server : List ℕ
  pub is : IsVerifier text spelling mechanism e.count salt stored server
  pub is_mechanism : e.mechanism ≡ mechanism_number mechanism
  pub is_filled : IsFilled e salt stored server

-- what is demanded for the verifier of an entry: it has keys
abbrev pub verifier_demands : Mechanism → StoredEntry → List Demand
verifier_demands mechanism e = entry_demands mechanism e ++ demand 66 (1 ≤ e.key_len) ∷ []

-- the verifier of the keys in the struct
abbrev pub verifier_in : Spelling → Mechanism → StoredEntry → List ℕ
verifier_in s mechanism e =
    verifier_text s mechanism e.count (take e.salt_len e.salt) (take e.key_len e.stored_key) (take e.key_len e.server_key)
