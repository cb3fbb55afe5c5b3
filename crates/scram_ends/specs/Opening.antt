-- What the first two messages of a login determine.
use Rattle.std.specs.Prelude.{ℕ, ◌≡◌, ◌≤◌, ◌⊎◌, false, List, ◌++◌, length, codes}
use Rattle.std.specs.List.{Contains}
use Rattle.std.specs.declared.option.Option.{Option}
use Rattle.std.specs.declared.option.Option.TheVariants.{None, Some}
use Rattle.scram_text.specs.Class.{IsPlainName}
use Rattle.scram_text.specs.Name.{SpellsName}
use Rattle.scram_text.specs.Messages.{ClientFirstParts, IsClientFirst, client_first_mandatory, ServerFirstParts, IsServerFirst}
use Rattle.scram_text.specs.Messages.{server_first_mandatory}
use Rattle.scram_ends.specs.Entry.{Entry}

-- the saslname spells this plain name
pub record IsNameOf (name part : List ℕ) : Type 0 where
  pub plain : IsPlainName name
  pub spelled : SpellsName name part

-- the name to act as, from `a=`: there is none, or its saslname spells this plain name
abbrev pub IsAuthzidOf : (authzid part : Option (List ℕ)) → Type 0
IsAuthzidOf None None = Unit {0}
IsAuthzidOf (Some name) (Some part) = IsNameOf name part
IsAuthzidOf None (Some part) = ⊥
IsAuthzidOf (Some name) None = ⊥

-- the flag asks for no channel binding (RFC 5802, section 6)
abbrev pub IsUnbound : List ℕ → Type 0
IsUnbound flag = (flag ≡ codes "n") ⊎ (flag ≡ codes "y")

-- a server takes up this client-first message, with this name and this name to act as (RFC 5802, section 5.1, `m`, `n` and `a`)
pub record IsTakenUp (first : ClientFirstParts) (name : List ℕ) (authzid : Option (List ℕ)) : Type 0 where
  pub not_mandatory : client_first_mandatory first ≡ false
  pub unbound : IsUnbound first.flag
  pub is_name : IsNameOf name first.name
  pub is_authzid : IsAuthzidOf authzid first.authzid

-- the nonce is the client's own, followed by at least one byte from the server (RFC 5802, section 5.1, `r`)
abbrev pub ExtendsNonce : (client_nonce nonce : List ℕ) → Type 0
ExtendsNonce client_nonce nonce = (more : List ℕ) × (nonce ≡ client_nonce ++ more) × (1 ≤ length more)

-- the parts of the first two messages, and the names in plain bytes
pub record Opening : Type 0 where
  pub first : ClientFirstParts
  pub name : List ℕ
  pub authzid : Option (List ℕ)
  pub challenge : ServerFirstParts

-- the texts open a login of this entry
pub record IsOpening (entry : Entry) (client_first server_first : List ℕ) (opening : Opening) : Type 0 where
  -- the first is a client-first message that a server takes up
  pub is_first : IsClientFirst client_first opening.first
  pub taken_up : IsTakenUp opening.first opening.name opening.authzid
  -- the second is a server-first message without a mandatory extension
  pub is_challenge : IsServerFirst server_first opening.challenge
  pub not_mandatory : server_first_mandatory opening.challenge ≡ false
  -- its nonce is the client's, followed by at least one byte from the server
  pub longer : ExtendsNonce opening.first.nonce opening.challenge.nonce
  -- its salt and its iteration count are the entry's
  pub salt : opening.challenge.salt ≡ entry.salt
  pub count : opening.challenge.count ≡ entry.count

-- whoever logs in by this name and this entry may act as the authzid (RFC 5802, section 5.1, `a`): there is none, or it is the name
-- itself or one in the entry's act_as
abbrev pub IsAllowed : Entry → (name : List ℕ) → (authzid : Option (List ℕ)) → Type 0
IsAllowed entry name None = Unit {0}
IsAllowed entry name (Some authzid) = (authzid ≡ name) ⊎ Contains entry.act_as authzid
