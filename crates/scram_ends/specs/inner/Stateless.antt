-- What the functions that judge a login in one call hand to each other.
use Rattle.std.specs.Prelude.{ℕ, ◌≡◌, false, List}
use Rattle.mac_core.specs.declared.mechanism.Mechanism.{Mechanism}
use Rattle.scram_text.specs.Messages.{ServerFirstParts, IsServerFirst, server_first_mandatory, ClientFinalParts, client_final_mandatory, gs2_header}
use Rattle.scram_text.specs.Shown.{ShowsClientFirst}
use Rattle.scram_text.specs.declared.client_first.ClientFirst.{ClientFirst}
use Rattle.scram_ends.specs.Entry.{Keys}
use Rattle.scram_ends.specs.Stages.{Challenged}
use Rattle.scram_ends.specs.Opening.{IsTakenUp, ExtendsNonce, Opening}
use Rattle.scram_ends.specs.SigningKeys.{StandFor}
use Rattle.scram_ends.specs.declared.stateless.EntryParts.{EntryParts}

-- the text is a challenge to this client's nonce, with this salt and count
pub record IsAnswered (salt : List ℕ) (count : ℕ) (client server_first : List ℕ) (challenge : ServerFirstParts) : Type 0 where
  pub is_challenge : IsServerFirst server_first challenge
  pub not_mandatory : server_first_mandatory challenge ≡ false
  pub longer : ExtendsNonce client challenge.nonce
  pub same_salt : challenge.salt ≡ salt
  pub same_count : challenge.count ≡ count

-- the entry, the client-first message that was read, and the nonce and the text of the challenge are those of this login and its opening
pub record ShowsLogin {K N : Type 0} (IsFor : K → Mechanism → Keys → Type 0) (names : List (List ℕ)) (entry : EntryParts K N)
    (first : ClientFirst) (nonce server_first : List ℕ) (login : Challenged) (opening : Opening) : Type 0 where
  pub mechanism : entry.mechanism ≡ login.mechanism
  pub keys : StandFor IsFor entry.keys login.mechanism login.entry.keys
  pub act_as : names ≡ login.entry.act_as
  pub shows : ShowsClientFirst first opening.first
  pub taken_up : IsTakenUp opening.first opening.name opening.authzid
  pub sent : nonce ≡ opening.challenge.nonce
  pub challenge : server_first ≡ login.server_first

-- the parts of client-final meet the rows before the proof: no mandatory extension, and the nonce and the gs2-header of the login
pub record IsRightBeforeProof (opening : Opening) (final : ClientFinalParts) : Type 0 where
  pub not_mandatory : client_final_mandatory final ≡ false
  pub nonce : final.nonce ≡ opening.challenge.nonce
  pub channel : final.channel ≡ gs2_header opening.first
