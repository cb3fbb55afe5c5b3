-- What a waiting server stands for. It keeps no whole message: of the first two it keeps the nonce, the gs2-header and, if the
-- entry has keys, two running MACs that have read AuthMessage up to the challenge.
use Rattle.std.specs.Prelude.{ℕ, ◌≡◌, ◌↔◌, IsTrue, List}
use Rattle.std.specs.declared.option.Option.{Option}
use Rattle.std.specs.declared.option.Option.TheVariants.{None, Some}
use Rattle.mac_core.specs.Mechanism.{IsScramMac}
use Rattle.mac_core.specs.declared.mechanism.Mechanism.{Mechanism}
use Rattle.scram_text.specs.Messages.{gs2_header}
use Rattle.scram_ends.specs.Entry.{Keys}
use Rattle.scram_ends.specs.Stages.{Challenged}
use Rattle.scram_ends.specs.Auth.{auth_to_challenge}
use Rattle.scram_ends.specs.Opening.{Opening, IsOpening, IsAllowed}
use Rattle.scram_ends.specs.declared.signing.Signing.{Signing}
use Rattle.scram_ends.specs.declared.server.ServerWait.{ServerWait}

-- the value signs with these keys and this mechanism: it keeps StoredKey, and its two running MACs, one with StoredKey and one with
-- ServerKey, have read the text `read`
pub record IsSigning (signing : Signing) (used : Mechanism) (keys : Keys) (read : List ℕ) : Type 0 where
  pub mechanism : signing.mechanism ≡ used
  pub stored : signing.stored.items ≡ keys.stored
  pub proof_mac : IsScramMac used signing.proof_mac keys.stored read
  pub signature_mac : IsScramMac used signing.signature_mac keys.server read

-- if there are keys, there is a value that signs with them and whose MACs have read `read`; if there are none, there is no value
abbrev pub IsSigningFor : Option Signing → Mechanism → Option Keys → List ℕ → Type 0
IsSigningFor None mechanism None read = Unit {0}
IsSigningFor (Some signing) mechanism (Some keys) read = IsSigning signing mechanism keys read
IsSigningFor None mechanism (Some keys) read = ⊥
IsSigningFor (Some signing) mechanism None read = ⊥

-- the server stands for this login: it has sent the login's challenge, and waits for client-final
pub record StandsForChallenged (wait : ServerWait) (login : Challenged) : Type 0 where
  pub opening : Opening
  pub is_opening : IsOpening login.entry login.client_first login.server_first opening
  pub nonce : wait.nonce.items ≡ opening.challenge.nonce
  pub header : wait.header.items ≡ gs2_header opening.first
  pub allowed : IsTrue wait.allowed ↔ IsAllowed login.entry opening.name opening.authzid
  pub signing : IsSigningFor wait.signing login.mechanism login.entry.keys (auth_to_challenge opening.first login.server_first)
