-- The calls of a client's login: what they demand, and what they answer.
use Rattle.std.specs.Prelude.{ℕ, ◌≡◌, ◌≤◌, List, [], ◌∷◌, ◌++◌, length, take, IfSome}
use Rattle.std.specs.declared.option.Option.{Option}
use Rattle.std.specs.declared.option.Option.TheVariants.{None, Some}
use Rattle.mac_core.specs.Mechanism.{digest_len_by}
use Rattle.mac_core.specs.declared.mechanism.Mechanism.{Mechanism}
use Rattle.scram_text.specs.Class.{IsNoncePart, IsPassword, IsPlainName}
use Rattle.scram_text.specs.Messages.{ClientFirstParts, ServerFirstParts}
use Rattle.scram_ends.specs.Stages.{Started, Answered, started_login, answered_login}
use Rattle.scram_ends.specs.Login.{IsAuthentic}
use Rattle.scram_ends.specs.Honest.{IsHonestFirst, IsHonest, honest_signature, max_honest_first_len, max_honest_final_len}
use Rattle.scram_ends.specs.Client.{IsAnswerable, IsChallengeFault, IsNotAuthenticFault}
use Rattle.scram_ends.specs.Faults.{client_fault_number}
use Rattle.scram_ends.specs.declared.client.ClientFault.{ClientFault}
use Rattle.scram_ends.specs.declared.client.Limits.{Limits}
use Rattle.c_library.specs.Buffers.{IsPut}
use Rattle.c_library.specs.Demands.{Demand, demand}
use Rattle.c_library.specs.declared.client.ClientLogin.{ClientLogin}

-- the name to act as that is asked for: none if the text is empty
abbrev pub asked : List ℕ → Option (List ℕ)
asked [] = None
asked (c ∷ text) = Some (c ∷ text)

-- the iteration counts that the client accepts
abbrev pub limits_in : ClientLogin → Limits
limits_in c = record { least = c.least; most = c.most }

-- the login that the client has started with this message
abbrev pub started_in : Mechanism → ClientLogin → (client_first : List ℕ) → Started
started_in mechanism c client_first =
    started_login mechanism (limits_in c) c.name.at.now (asked c.act_as.at.now) c.nonce.at.now client_first

-- that login, once the client has answered the challenge with this password
abbrev pub answered_in : Mechanism → ClientLogin → (password client_first server_first client_final : List ℕ) → Answered
answered_in mechanism c password client_first server_first client_final =
    answered_login (started_in mechanism c client_first) password server_first client_final

-- what is demanded of a client
abbrev pub client_demands : ClientLogin → List Demand
client_demands c =
    demand 65 (1 ≤ c.least) ∷ demand 63 (IsPlainName c.name.at.now) ∷ demand 63 (IfSome (asked c.act_as.at.now) IsPlainName)
    ∷ demand 92 (IsNoncePart c.nonce.at.now) ∷ []

-- what is demanded for a client's first message: also room for the longest
abbrev pub client_first_demands : ClientLogin → (room : ℕ) → List Demand
client_first_demands c room = client_demands c ++ demand 93 (max_honest_first_len ≤ room) ∷ []

-- the client's first message is in the buffer, as an honest client builds it
pub record IsFirstSent (c : ClientLogin) (old new : List ℕ) (len : ℕ) : Type 0 where
  pub client_first : List ℕ
  pub first : ClientFirstParts
  pub is_first : IsHonestFirst c.name.at.now (asked c.act_as.at.now) c.nonce.at.now client_first first
  pub is_put : IsPut old new client_first
  pub is_len : len ≡ length client_first

-- a client with these limits and this nonce has to answer the challenge
abbrev pub answers : ClientLogin → (server_first : List ℕ) → Demand
answers c server_first = record {
  IsMet = (challenge : ServerFirstParts) × IsAnswerable (limits_in c) c.nonce.at.now server_first challenge;
  IsFault = λ told. (fault : ClientFault) × (told ≡ client_fault_number fault)
      × IsChallengeFault (limits_in c) c.nonce.at.now server_first fault;
}

-- what is demanded to answer a challenge: also room for the longest message
abbrev pub client_final_demands : ClientLogin → (password server_first : List ℕ) → (room : ℕ) → List Demand
client_final_demands c password server_first room =
    client_demands c ++ demand 91 (IsPassword password) ∷ demand 93 (max_honest_final_len ≤ room) ∷ answers c server_first ∷ []

-- the signature that 32 bytes have: so many of them as the mechanism's digests
abbrev pub signature_in : Mechanism → List ℕ → List ℕ
signature_in mechanism bytes = take (digest_len_by mechanism) bytes

-- the client's final message is in the buffer, as an honest client builds it, and the signature that it then expects is in the 32 bytes
pub record IsFinalSent (mechanism : Mechanism) (c : ClientLogin) (password server_first old new : List ℕ) (len : ℕ) (signature : List ℕ)
    : Type 0 where
  pub client_first : List ℕ
  pub client_final : List ℕ
  pub honest : IsHonest (answered_in mechanism c password client_first server_first client_final)
  pub is_put : IsPut old new client_final
  pub is_len : len ≡ length client_final
  pub is_signature : signature_in mechanism signature
      ≡ honest_signature (answered_in mechanism c password client_first server_first client_final) honest

-- the server's final message has to have this signature
abbrev pub shows : (server_final signature : List ℕ) → Demand
shows server_final signature = record {
  IsMet = IsAuthentic server_final signature;
  IsFault = λ told. (fault : ClientFault) × (told ≡ client_fault_number fault) × IsNotAuthenticFault signature server_final fault;
}
