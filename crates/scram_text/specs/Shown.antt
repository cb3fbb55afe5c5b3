-- What a reader returns shows the parts of the message: slices are the texts of the parts.
use Rattle.std.specs.Prelude.{◌≡◌, ℕ, List, ◌++◌, codes}
use Rattle.scram_text.specs.Parts.{joined}
use Rattle.scram_text.specs.Messages.{ClientFirstParts, gs2_header, client_first_bare, client_first_mandatory, ServerFirstParts}
use Rattle.scram_text.specs.Messages.{server_first_mandatory, ClientFinalParts, client_final_without_proof, client_final_mandatory, VerifierOrError}
use Rattle.scram_text.specs.Messages.{verifier, server_error, ServerFinalParts, server_final_mandatory}
use Rattle.scram_text.specs.declared.client_first.Flag.{Flag}
use Rattle.scram_text.specs.declared.client_first.Flag.TheVariants.{NoBinding, NotOffered, Binding}
use Rattle.scram_text.specs.declared.client_first.ClientFirst.{ClientFirst}
use Rattle.scram_text.specs.declared.server_first.ServerFirst.{ServerFirst}
use Rattle.scram_text.specs.declared.client_final.ClientFinal.{ClientFinal}
use Rattle.scram_text.specs.declared.server_final.FinalResult.{FinalResult}
use Rattle.scram_text.specs.declared.server_final.FinalResult.TheVariants.{Verifier, ErrorValue}
use Rattle.scram_text.specs.declared.server_final.ServerFinal.{ServerFinal}

-- the text of a flag
abbrev pub flag_text : Flag → List ℕ
flag_text NoBinding = codes "n"
flag_text NotOffered = codes "y"
flag_text (Binding name) = codes "p=" ++ name.now

-- the message shows these parts of client-first, its gs2-header with the last comma, and its bare message
pub record ShowsClientFirst (m : ClientFirst) (p : ClientFirstParts) : Type 0 where
  pub header : m.header.now ≡ gs2_header p
  pub bare : m.bare.now ≡ client_first_bare p
  pub flag : flag_text m.flag ≡ p.flag
  pub authzid : m.authzid ≡ p.authzid
  pub mandatory : m.mandatory ≡ client_first_mandatory p
  pub name : m.name ≡ p.name
  pub nonce : m.nonce.now ≡ p.nonce
  pub extensions : m.extensions.now ≡ joined p.extensions

-- the message shows these parts of server-first
pub record ShowsServerFirst (m : ServerFirst) (p : ServerFirstParts) : Type 0 where
  pub mandatory : m.mandatory ≡ server_first_mandatory p
  pub nonce : m.nonce.now ≡ p.nonce
  pub salt : m.salt ≡ p.salt
  pub count : m.count ≡ p.count
  pub extensions : m.extensions.now ≡ joined p.extensions

-- the message shows these parts of client-final, and the text before its proof
pub record ShowsClientFinal (m : ClientFinal) (p : ClientFinalParts) : Type 0 where
  pub without_proof : m.without_proof.now ≡ client_final_without_proof p
  pub mandatory : m.mandatory ≡ client_final_mandatory p
  pub channel : m.channel.items ≡ p.channel
  pub nonce : m.nonce.now ≡ p.nonce
  pub extensions : m.extensions.now ≡ joined p.extensions
  pub proof : m.proof.items ≡ p.proof

-- the verifier or the error value that a result holds
abbrev pub verifier_or_error_of : FinalResult → VerifierOrError
verifier_or_error_of (Verifier signature) = verifier signature.items
verifier_or_error_of (ErrorValue value) = server_error value.now

-- the message shows these parts of server-final
pub record ShowsServerFinal (m : ServerFinal) (p : ServerFinalParts) : Type 0 where
  pub mandatory : m.mandatory ≡ server_final_mandatory p
  pub verifier_or_error : verifier_or_error_of m.result ≡ p.verifier_or_error
  pub extensions : m.extensions.now ≡ joined p.extensions
