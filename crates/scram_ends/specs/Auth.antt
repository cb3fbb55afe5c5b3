-- What both ends sign, and what shows that an end has its key (RFC 5802, section 3).
use Rattle.std.specs.Prelude.{ℕ, ◌≡◌, List, [], ◌∷◌, ◌++◌, length}
use Rattle.std.specs.Str.{byte}
use Rattle.mac_core.specs.Mechanism.{digest_len_by, hmac_by, hi_by, client_key_by, stored_key_by}
use Rattle.mac_core.specs.Keys.{xor_bytes}
use Rattle.mac_core.specs.declared.mechanism.Mechanism.{Mechanism}
use Rattle.scram_text.specs.Messages.{ClientFirstParts, client_first_bare, ClientFinalParts, client_final_without_proof}
use Rattle.scram_ends.specs.Entry.{Keys, password_keys}

-- AuthMessage up to the challenge: client-first-bare, comma, server-first, comma. The client_first_bare of client-first's parts is the text
-- that was sent.
abbrev pub auth_to_challenge : ClientFirstParts → (server_first : List ℕ) → List ℕ
auth_to_challenge first server_first = client_first_bare first ++ byte "," ∷ [] ++ server_first ++ byte "," ∷ []

-- AuthMessage = client-first-message-bare "," server-first-message "," client-final-message-without-proof
abbrev pub auth_message : ClientFirstParts → (server_first : List ℕ) → ClientFinalParts → List ℕ
auth_message first server_first final = auth_to_challenge first server_first ++ client_final_without_proof final

-- ClientSignature = HMAC(StoredKey, AuthMessage)
abbrev pub client_signature : Mechanism → Keys → (auth : List ℕ) → List ℕ
client_signature mechanism keys auth = hmac_by mechanism keys.stored auth

-- ServerSignature = HMAC(ServerKey, AuthMessage)
abbrev pub server_signature : Mechanism → Keys → (auth : List ℕ) → List ℕ
server_signature mechanism keys auth = hmac_by mechanism keys.server auth

-- ClientProof is as long as a digest of H, and H(ClientProof XOR ClientSignature) = StoredKey
pub record IsProof (mechanism : Mechanism) (keys : Keys) (auth proof : List ℕ) : Type 0 where
  pub len : length proof ≡ digest_len_by mechanism
  pub opens : stored_key_by mechanism (xor_bytes proof (client_signature mechanism keys auth)) ≡ keys.stored

-- ClientProof = ClientKey XOR ClientSignature, for the keys of a password
abbrev pub proof_of : Mechanism → (password salt : List ℕ) → (count : ℕ) → (auth : List ℕ) → List ℕ
proof_of mechanism password salt count auth =
    xor_bytes (client_key_by mechanism (hi_by mechanism password salt count))
    (client_signature mechanism (password_keys mechanism password salt count) auth)

-- the ServerSignature that a client expects, with the ServerKey of its password
abbrev pub expected_signature : Mechanism → (password salt : List ℕ) → (count : ℕ) → (auth : List ℕ) → List ℕ
expected_signature mechanism password salt count auth = server_signature mechanism (password_keys mechanism password salt count) auth
