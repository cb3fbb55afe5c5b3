-- A valid login (RFC 5802, sections 3 and 5), as conditions on its four whole messages.
use Rattle.std.specs.Prelude.{ℕ, ◌≡◌, false, List}
use Rattle.std.specs.declared.option.Option.TheVariants.{Some}
use Rattle.scram_text.specs.Messages.{gs2_header, ClientFinalParts, IsClientFinal, client_final_mandatory, verifier, ServerFinalParts, IsServerFinal}
use Rattle.scram_text.specs.Messages.{server_final_mandatory}
use Rattle.scram_ends.specs.Entry.{Keys}
use Rattle.scram_ends.specs.Stages.{Challenged}
use Rattle.scram_ends.specs.Auth.{auth_message, server_signature, IsProof}
use Rattle.scram_ends.specs.Opening.{Opening, IsOpening, IsAllowed}

-- the text is a server-final message whose verifier is this signature. It may have extensions, but no mandatory one.
pub record IsAuthentic (text signature : List ℕ) : Type 0 where
  pub last : ServerFinalParts
  pub is_last : IsServerFinal text last
  pub not_mandatory : server_final_mandatory last ≡ false
  pub is_verifier : last.verifier_or_error ≡ verifier signature

-- the login is valid, with these last two messages
pub record IsValidLogin (login : Challenged) (client_final server_final : List ℕ) : Type 0 where
  pub opening : Opening
  pub final : ClientFinalParts
  pub keys : Keys
  -- its first two messages open a login of the entry
  pub is_opening : IsOpening login.entry login.client_first login.server_first opening
  -- the third is a client-final message without a mandatory extension
  pub is_final : IsClientFinal client_final final
  pub not_mandatory : client_final_mandatory final ≡ false
  -- its nonce is that of the challenge, and its channel binding is the gs2-header of client-first
  pub nonce : final.nonce ≡ opening.challenge.nonce
  pub channel : final.channel ≡ gs2_header opening.first
  -- its proof is one for the entry's keys
  pub has_keys : login.entry.keys ≡ Some keys
  pub proof : IsProof login.mechanism keys (auth_message opening.first login.server_first final) final.proof
  -- the account may act as the name that client-first asks for, if any
  pub allowed : IsAllowed login.entry opening.name opening.authzid
  -- the fourth message is a server-final message with the ServerSignature as its verifier
  pub authentic : IsAuthentic server_final (server_signature login.mechanism keys (auth_message opening.first login.server_first final))
