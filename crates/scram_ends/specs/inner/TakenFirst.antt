-- What a server takes from a client-first message.
use Rattle.std.specs.Prelude.{ℕ, ◌≡◌, List}
use Rattle.scram_text.specs.Messages.{ClientFirstParts, gs2_header, client_first_bare}
use Rattle.scram_ends.specs.Opening.{IsTakenUp, Opening}
use Rattle.scram_ends.specs.declared.first.TakenFirst.{TakenFirst}

-- what a server takes from a client-first message that it takes up
pub record ShowsTakenFirst (taken : TakenFirst) (first : ClientFirstParts) : Type 0 where
  pub header : taken.header.now ≡ gs2_header first
  pub bare : taken.bare.now ≡ client_first_bare first
  pub nonce : taken.nonce.now ≡ first.nonce
  pub taken_up : IsTakenUp first taken.name taken.authzid

-- what a server takes, and the nonce that it sends, are those of this opening
pub record ShowsOpening (taken : TakenFirst) (sent : List ℕ) (opening : Opening) : Type 0 where
  pub header : taken.header.now ≡ gs2_header opening.first
  pub bare : taken.bare.now ≡ client_first_bare opening.first
  pub name : taken.name ≡ opening.name
  pub authzid : taken.authzid ≡ opening.authzid
  pub nonce : sent ≡ opening.challenge.nonce
