-- The messages of an honest client (RFC 5802, section 3): one that has the password and builds each message as the RFC says.
use Rattle.std.specs.Prelude.{ℕ, ◌≡◌, List, [], IfSome}
use Rattle.std.specs.declared.option.Option.{Option}
use Rattle.scram_text.specs.Class.{IsPlainName}
use Rattle.scram_text.specs.Messages.{ClientFirstParts, gs2_header, IsClientFirst, ServerFirstParts, IsServerFirst, ClientFinalParts, IsClientFinal}
use Rattle.scram_text.specs.Written.{client_first_of}
use Rattle.scram_text.specs.declared.client_first.Flag.TheVariants.{NoBinding}
use Rattle.scram_ends.specs.Stages.{Answered}
use Rattle.scram_ends.specs.Auth.{auth_message, proof_of, expected_signature}

-- the most bytes of the client-first message of an honest client: `n,a=`, `,n=` and `,r=` are 10, two names of 255 bytes, each of
-- which may take three, 1530, and its part of the nonce 256
abbrev pub max_honest_first_len : ℕ
max_honest_first_len = 1796

-- the most bytes of the client-final message of an honest client: `c=`, `,r=` and `,p=` are 8, the base64 of the longest gs2-header
-- (770 bytes) has 1028, the longest nonce 512, and the base64 of a proof of SCRAM-SHA-256 (32 bytes) 44
abbrev pub max_honest_final_len : ℕ
max_honest_final_len = 1592

-- the text is client-first with this name, name to act as and nonce, the flag `n` and no extensions
pub record IsHonestFirst (name : List ℕ) (authzid : Option (List ℕ)) (nonce client_first : List ℕ) (first : ClientFirstParts) : Type 0 where
  pub is_first : IsClientFirst client_first first
  pub built : first ≡ client_first_of NoBinding authzid name nonce []
  pub plain : IsPlainName name
  pub plain_authzid : IfSome authzid IsPlainName

-- client-final of this login is as an honest client builds it
pub record IsHonestFinal (login : Answered) (first : ClientFirstParts) (challenge : ServerFirstParts) (final : ClientFinalParts)
    : Type 0 where
  pub is_final : IsClientFinal login.client_final final
  -- its channel binding is the gs2-header of client-first
  pub channel : final.channel ≡ gs2_header first
  -- its nonce is the challenge's, and it has no extensions
  pub sent_nonce : final.nonce ≡ challenge.nonce
  pub no_extensions : final.extensions ≡ []
  -- its proof is made from the password with the challenge's salt and count
  pub proof : final.proof
      ≡ proof_of login.mechanism login.password challenge.salt challenge.count (auth_message first login.server_first final)

-- the client of this login is honest: both its messages are as an honest client builds them, with the challenge between them
pub record IsHonest (login : Answered) : Type 0 where
  pub first : ClientFirstParts
  pub challenge : ServerFirstParts
  pub final : ClientFinalParts
  pub is_first : IsHonestFirst login.name login.authzid login.nonce login.client_first first
  pub is_challenge : IsServerFirst login.server_first challenge
  pub is_final : IsHonestFinal login first challenge final

-- the ServerSignature that an honest client expects, with the ServerKey of its password
abbrev pub honest_signature : (login : Answered) → IsHonest login → List ℕ
honest_signature login honest =
    expected_signature login.mechanism login.password honest.challenge.salt honest.challenge.count
    (auth_message honest.first login.server_first honest.final)
