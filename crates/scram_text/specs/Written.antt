-- What the writers write: the parts that their arguments make, and when the arguments are in their classes.
use Rattle.std.specs.Prelude.{ℕ, ◌≡◌, ◌<◌, List, [], ◌∷◌, length, IsTrue, option_map, Result, OnOk, IsErrOf, Vec}
use Rattle.std.specs.declared.option.Option.{Option}
use Rattle.std.specs.declared.option.Option.TheVariants.{None}
use Rattle.scram_text.specs.Limits.{max_channel_len, max_nonce_len, max_salt_len, max_tag_len, max_message_len}
use Rattle.scram_text.specs.Appended.{IsAppended, LacksRoom}
use Rattle.scram_text.specs.Class.{IsNonce, IsUtf8Text}
use Rattle.scram_text.specs.Name.{name_spelling}
use Rattle.scram_text.specs.Base64Field.{IsField}
use Rattle.scram_text.specs.Parts.{parts, is_flag, IsCount, AreExtensions}
use Rattle.scram_text.specs.Messages.{ClientFirstParts, ServerFirstParts, ClientFinalParts, client_final_without_proof, VerifierOrError, verifier}
use Rattle.scram_text.specs.Messages.{server_error, IsVerifierOrError, ServerFinalParts}
use Rattle.scram_text.specs.Shown.{flag_text}
use Rattle.scram_text.specs.declared.client_first.Flag.{Flag}
use Rattle.scram_text.specs.declared.fault.WriteFault.{WriteFault}
use Rattle.scram_text.specs.declared.client_final.ClientFinalWithoutProof.{ClientFinalWithoutProof}

-- the attr-vals of a text of extensions: none if it is empty
abbrev pub extension_parts : List ℕ → List (List ℕ)
extension_parts [] = []
extension_parts (c ∷ text) = parts (c ∷ text)

-- the text is empty, or attr-vals with commas between them
pub record IsExtensionText (extensions : List ℕ) : Type 0 where
  pub utf8_text : IsUtf8Text extensions
  pub each : AreExtensions (extension_parts extensions)

-- the parts of the client-first message that is written; names are given in plain bytes
abbrev pub client_first_of : Flag → (authzid : Option (List ℕ)) → (name nonce extensions : List ℕ) → ClientFirstParts
client_first_of flag authzid name nonce extensions = record {
  flag = flag_text flag;
  authzid = option_map name_spelling authzid;
  mext = None;
  name = name_spelling name;
  nonce = nonce;
  extensions = extension_parts extensions;
}

-- the flag and the extensions for client-first are in their classes; the types of the other arguments keep those in theirs
pub record CanBeClientFirst (flag : Flag) (extensions : List ℕ) : Type 0 where
  pub flag_class : IsTrue (is_flag (flag_text flag))
  pub extensions_class : IsExtensionText extensions

-- the parts of the server-first message that is written
abbrev pub server_first_of : (nonce salt : List ℕ) → (count : ℕ) → (extensions : List ℕ) → ServerFirstParts
server_first_of nonce salt count extensions = record {
  mext = None;
  nonce = nonce;
  salt = salt;
  count = count;
  extensions = extension_parts extensions;
}

-- the arguments for server-first are in their classes
pub record CanBeServerFirst (nonce salt : List ℕ) (count : ℕ) (extensions : List ℕ) : Type 0 where
  pub nonce_class : IsNonce max_nonce_len nonce
  pub salt_class : IsField max_salt_len salt
  pub count_class : IsCount count
  pub extensions_class : IsExtensionText extensions

-- the parts of the client-final message that is written
abbrev pub client_final_of : (channel nonce extensions proof : List ℕ) → ClientFinalParts
client_final_of channel nonce extensions proof = record {
  channel = channel;
  nonce = nonce;
  extensions = extension_parts extensions;
  proof = proof;
}

-- the arguments for client-final without its proof are in their classes
pub record CanBeClientFinalWithoutProof (channel nonce extensions : List ℕ) : Type 0 where
  pub channel_class : IsField max_channel_len channel
  pub nonce_class : IsNonce max_nonce_len nonce
  pub extensions_class : IsExtensionText extensions

-- the arguments for client-final are in their classes
pub record CanBeClientFinal (channel nonce extensions proof : List ℕ) : Type 0 where
  pub without_proof : CanBeClientFinalWithoutProof channel nonce extensions
  pub proof_class : IsField max_tag_len proof

-- the value holds the client-final-message-without-proof of these parts, which are in their classes. Their proof plays no part.
pub record IsClientFinalWithoutProof (w : ClientFinalWithoutProof) (p : ClientFinalParts) : Type 0 where
  pub held : w.text.items ≡ client_final_without_proof p
  pub channel : IsField max_channel_len p.channel
  pub nonce : IsNonce max_nonce_len p.nonce
  pub extensions : AreExtensions p.extensions
  pub utf8_text : IsUtf8Text (client_final_without_proof p)

-- the parts of the server-final message that is written
abbrev pub server_final_of : VerifierOrError → (extensions : List ℕ) → ServerFinalParts
server_final_of verifier_or_error extensions = record { verifier_or_error = verifier_or_error; extensions = extension_parts extensions }

-- a verifier or an error is in its class, and an error value is also UTF-8 without NUL
abbrev pub CanBeVerifierOrError : VerifierOrError → Type 0
CanBeVerifierOrError (verifier signature) = IsVerifierOrError (verifier signature)
CanBeVerifierOrError (server_error value) = IsVerifierOrError (server_error value) × IsUtf8Text value

-- the arguments for server-final are in their classes
pub record CanBeServerFinal (verifier_or_error : VerifierOrError) (extensions : List ℕ) : Type 0 where
  pub verifier_or_error_class : CanBeVerifierOrError verifier_or_error
  pub extensions_class : IsExtensionText extensions

-- what the writer of a message answers: Ok if its text is appended, and then the text is such a message of these parts; 16 only if an
-- argument is outside its class; 17 only if the arguments are in their classes and the message is too long; 99 only if it could be
-- written and the vector has no room reserved for it. After each of these faults the vector is unchanged.
pub record IsMessageWritten {T P Z : Type 0} (result : Result T WriteFault) (old new : Vec ℕ Z) (text : P → List ℕ)
    (IsMessage : List ℕ → P → Type 0) (p : P) (CanBe : Type 0) : Type 0 where
  pub appended : IsAppended result old new (text p)
  pub is_message : OnOk result (IsMessage (text p) p)
  pub unwritable : IsErrOf result WriteFault.Unwritable → CanBe → ⊥
  pub over_limit : IsErrOf result WriteFault.OverLimit → CanBe × (max_message_len < length (text p))
  pub no_memory : IsErrOf result WriteFault.NoMemory → IsMessage (text p) p × LacksRoom old (text p)
