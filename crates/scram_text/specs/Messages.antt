-- The four messages (RFC 5802, section 7), as relations between a text and its parts: the text is the literals and the parts,
-- joined, and each part is in its class. Base64 fields are shown decoded, names as they are spelled, and extensions as the list of
-- their attr-vals.
use Rattle.std.specs.Prelude.{ℕ, ◌≡◌, ◌≤◌, Bool, ◌||◌, IsTrue, List, [], ◌∷◌, ◌++◌, length, codes, decimal, IfSome, is_some}
use Rattle.std.specs.Str.{byte}
use Rattle.std.specs.declared.option.Option.{Option}
use Rattle.scram_text.specs.Limits.{max_channel_len, max_message_len, max_nonce_len, max_nonce_part_len, max_salt_len, max_tag_len}
use Rattle.scram_text.specs.Class.{IsNonce, IsUtf8Text}
use Rattle.scram_text.specs.Name.{IsSaslName}
use Rattle.scram_text.specs.Base64Field.{base64, IsField}
use Rattle.scram_text.specs.Parts.{joined, is_flag, authzid_text, mext_parts, IsValue, IsCount, AreExtensions, have_mandatory}

-- the parts of client-first, without the letters of their attributes. Both names are as they are spelled.
pub record ClientFirstParts : Type 0 where
  pub flag : List ℕ
  pub authzid : Option (List ℕ)
  pub mext : Option (List ℕ)
  pub name : List ℕ
  pub nonce : List ℕ
  pub extensions : List (List ℕ)

-- gs2-header = gs2-cbind-flag "," [ authzid ] ",", as "n,a=root,"
unfoldable pub gs2_header : ClientFirstParts → List ℕ
gs2_header p = p.flag ++ byte "," ∷ (authzid_text p.authzid ++ byte "," ∷ [])

-- the parts of client-first-message-bare
abbrev pub bare_parts : ClientFirstParts → List (List ℕ)
bare_parts p = mext_parts p.mext ++ ((codes "n=" ++ p.name) ∷ (codes "r=" ++ p.nonce) ∷ p.extensions)

-- client-first-message-bare = [reserved-mext ","] username "," nonce ["," extensions], as "n=user,r=abc"
unfoldable pub client_first_bare : ClientFirstParts → List ℕ
client_first_bare p = joined (bare_parts p)

-- client-first-message = gs2-header client-first-message-bare, as "n,,n=user,r=abc"
unfoldable pub client_first_text : ClientFirstParts → List ℕ
client_first_text p = gs2_header p ++ client_first_bare p

-- the message asks for a mandatory extension
abbrev pub client_first_mandatory : ClientFirstParts → Bool
client_first_mandatory p = is_some p.mext || have_mandatory p.extensions

-- the text is a client-first message with these parts
pub record IsClientFirst (text : List ℕ) (p : ClientFirstParts) : Type 0 where
  pub spelled : text ≡ client_first_text p
  pub flag : IsTrue (is_flag p.flag)
  pub authzid : IfSome p.authzid IsSaslName
  pub mext : IfSome p.mext IsValue
  pub name : IsSaslName p.name
  pub nonce : IsNonce max_nonce_part_len p.nonce
  pub extensions : AreExtensions p.extensions
  pub utf8_text : IsUtf8Text text
  pub short : length text ≤ max_message_len

-- the parts of server-first, without the letters of their attributes. The salt is decoded from base64.
pub record ServerFirstParts : Type 0 where
  pub mext : Option (List ℕ)
  pub nonce : List ℕ
  pub salt : List ℕ
  pub count : ℕ
  pub extensions : List (List ℕ)

-- server-first-message = [reserved-mext ","] nonce "," salt "," iteration-count ["," extensions], as
-- "r=abcdef,s=QSXCR+Q6sek8bf92,i=4096"
unfoldable pub server_first_text : ServerFirstParts → List ℕ
server_first_text p =
    joined (mext_parts p.mext ++ ((codes "r=" ++ p.nonce) ∷ (codes "s=" ++ base64 p.salt)
    ∷ (codes "i=" ++ decimal p.count) ∷ p.extensions))

-- the message asks for a mandatory extension
abbrev pub server_first_mandatory : ServerFirstParts → Bool
server_first_mandatory p = is_some p.mext || have_mandatory p.extensions

-- the text is a server-first message with these parts
pub record IsServerFirst (text : List ℕ) (p : ServerFirstParts) : Type 0 where
  pub spelled : text ≡ server_first_text p
  pub mext : IfSome p.mext IsValue
  pub nonce : IsNonce max_nonce_len p.nonce
  pub salt : IsField max_salt_len p.salt
  pub count : IsCount p.count
  pub extensions : AreExtensions p.extensions
  pub utf8_text : IsUtf8Text text
  pub short : length text ≤ max_message_len

-- the parts of client-final, without the letters of their attributes. The channel field and the proof are decoded from base64.
pub record ClientFinalParts : Type 0 where
  pub channel : List ℕ
  pub nonce : List ℕ
  pub extensions : List (List ℕ)
  pub proof : List ℕ

-- client-final-message-without-proof = channel-binding "," nonce ["," extensions], as "c=biws,r=abcdef"
unfoldable pub client_final_without_proof : ClientFinalParts → List ℕ
client_final_without_proof p = joined ((codes "c=" ++ base64 p.channel) ∷ (codes "r=" ++ p.nonce) ∷ p.extensions)

-- client-final-message = client-final-message-without-proof "," proof, as
-- "c=biws,r=abcdef,p=v0X8v3Bz2T0CJGbJQyF0X+HI4Ts="
unfoldable pub client_final_text : ClientFinalParts → List ℕ
client_final_text p = client_final_without_proof p ++ byte "," ∷ (codes "p=" ++ base64 p.proof)

-- the message asks for a mandatory extension
abbrev pub client_final_mandatory : ClientFinalParts → Bool
client_final_mandatory p = have_mandatory p.extensions

-- the text is a client-final message with these parts
pub record IsClientFinal (text : List ℕ) (p : ClientFinalParts) : Type 0 where
  pub spelled : text ≡ client_final_text p
  pub channel : IsField max_channel_len p.channel
  pub nonce : IsNonce max_nonce_len p.nonce
  pub extensions : AreExtensions p.extensions
  pub proof : IsField max_tag_len p.proof
  pub utf8_text : IsUtf8Text text
  pub short : length text ≤ max_message_len

-- what server-final says: the server's signature, or why the login failed
pub data VerifierOrError : Type 0 where
  verifier : (signature : List ℕ) → VerifierOrError
  server_error : (value : List ℕ) → VerifierOrError

-- the parts of server-final, which says how the login ended
pub record ServerFinalParts : Type 0 where
  pub verifier_or_error : VerifierOrError
  pub extensions : List (List ℕ)

-- verifier = "v=" base64, server-error = "e=" server-error-value
abbrev pub verifier_or_error_text : VerifierOrError → List ℕ
verifier_or_error_text (verifier signature) = codes "v=" ++ base64 signature
verifier_or_error_text (server_error value) = codes "e=" ++ value

-- the signature has 1 to 64 bytes, or the error value has one or more value-chars
abbrev pub IsVerifierOrError : VerifierOrError → Type 0
IsVerifierOrError (verifier signature) = IsField max_tag_len signature
IsVerifierOrError (server_error value) = IsValue value

-- server-final-message = (server-error / verifier) ["," extensions], as "v=rmF9pqV8S7suAoZWja4dJRkFsKQ="
-- or "e=invalid-proof"
unfoldable pub server_final_text : ServerFinalParts → List ℕ
server_final_text p = joined (verifier_or_error_text p.verifier_or_error ∷ p.extensions)

-- the message asks for a mandatory extension
abbrev pub server_final_mandatory : ServerFinalParts → Bool
server_final_mandatory p = have_mandatory p.extensions

-- the text is a server-final message with these parts
pub record IsServerFinal (text : List ℕ) (p : ServerFinalParts) : Type 0 where
  pub spelled : text ≡ server_final_text p
  pub verifier_or_error : IsVerifierOrError p.verifier_or_error
  pub extensions : AreExtensions p.extensions
  pub utf8_text : IsUtf8Text text
  pub short : length text ≤ max_message_len
