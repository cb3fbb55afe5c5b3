-- The calls of a server's login: what they demand, and what they answer.
use Rattle.std.specs.Prelude.{ℕ, ◌≡◌, ◌≤◌, ◌↔◌, List, [], ◌∷◌, ◌++◌, length, map, unwrap_or}
use Rattle.std.specs.declared.option.Option.{Option}
use Rattle.mac_core.specs.declared.mechanism.Mechanism.{Mechanism}
use Rattle.scram_text.specs.Class.{IsNoncePart}
use Rattle.scram_text.specs.Messages.{ClientFirstParts, IsClientFirst}
use Rattle.scram_ends.specs.Stages.{Challenged, challenged_login}
use Rattle.scram_ends.specs.Opening.{IsTakenUp, Opening, IsOpening}
use Rattle.scram_ends.specs.First.{IsChallengeTo, IsRefusedWith, IsRecordedFault}
use Rattle.scram_ends.specs.Faults.{first_fault_number, recorded_fault_number}
use Rattle.scram_ends.specs.Verdict.{Due, IsDue, due_text}
use Rattle.scram_ends.specs.Login.{IsValidLogin}
use Rattle.scram_ends.specs.declared.first.FirstFault.{FirstFault}
use Rattle.scram_ends.specs.declared.recorded.RecordedFault.{RecordedFault}
use Rattle.c_library.specs.Demands.{Demand, demand}
use Rattle.c_library.specs.Entries.{entry_demands, entry_in}
use Rattle.c_library.specs.Buffers.{IsPut, IsPadded}
use Rattle.c_library.specs.Numbers.{due_number}
use Rattle.c_library.specs.declared.act_as.Bytes.{Bytes}
use Rattle.c_library.specs.declared.entry.StoredEntry.{StoredEntry}
use Rattle.c_library.specs.declared.names.Names.{Names}

-- the texts of a list
abbrev pub texts_in : List Bytes → List (List ℕ)
texts_in list = map (λ (bytes : Bytes). bytes.at.now) list

-- a server takes up this client-first message
abbrev pub IsTaken : (client_first : List ℕ) → Type 0
IsTaken client_first =
    (first : ClientFirstParts) × (name : List ℕ) × (authzid : Option (List ℕ)) × IsClientFirst client_first first
    × IsTakenUp first name authzid

-- a server has to take up the client-first message
abbrev pub taken_up : (client_first : List ℕ) → Demand
taken_up client_first = record {
  IsMet = IsTaken client_first;
  IsFault = λ told. (fault : FirstFault) × (told ≡ first_fault_number fault) × IsRefusedWith client_first fault;
}

-- the names in a client-first message that is taken up, each with zeros after it. The name to act as is empty if none is asked for.
pub record HasNames (client_first : List ℕ) (names : Names) : Type 0 where
  pub first : ClientFirstParts
  pub name : List ℕ
  pub authzid : Option (List ℕ)
  pub is_first : IsClientFirst client_first first
  pub taken_up : IsTakenUp first name authzid
  pub is_name : IsPadded 256 names.name name
  pub is_act_as : IsPadded 256 names.act_as (unwrap_or authzid [])

-- what is demanded for a challenge
abbrev pub first_demands : Mechanism → StoredEntry → (client_first server_nonce : List ℕ) → List Demand
first_demands mechanism e client_first server_nonce =
    entry_demands mechanism e ++ demand 92 (IsNoncePart server_nonce) ∷ taken_up client_first ∷ []

-- the challenge is in the buffer
pub record IsChallenged (e : StoredEntry) (client_first server_nonce old new : List ℕ) (len : ℕ) : Type 0 where
  pub server_first : List ℕ
  pub is_challenge : IsChallengeTo (entry_in e []) client_first server_nonce server_first
  pub is_put : IsPut old new server_first
  pub is_len : len ≡ length server_first

-- each challenge fits into so many bytes
abbrev pub first_fits : StoredEntry → (client_first server_nonce : List ℕ) → (room : ℕ) → Demand
first_fits e client_first server_nonce room = demand 93
    ((server_first : List ℕ) → IsChallengeTo (entry_in e []) client_first server_nonce server_first → length server_first ≤ room)

-- the texts have to open a login of this entry
abbrev pub opens : StoredEntry → (client_first server_first : List ℕ) → Demand
opens e client_first server_first = record {
  IsMet = (opening : Opening) × IsOpening (entry_in e []) client_first server_first opening;
  IsFault = λ told. (fault : RecordedFault) × (told ≡ recorded_fault_number fault)
      × IsRecordedFault (entry_in e []) client_first server_first fault;
}

-- what is demanded to judge a login
abbrev pub final_demands : Mechanism → StoredEntry → (client_first server_first : List ℕ) → List Demand
final_demands mechanism e client_first server_first = entry_demands mechanism e ++ opens e client_first server_first ∷ []

-- the login that a server has challenged
abbrev pub login_of : Mechanism → StoredEntry → (act_as : List (List ℕ)) → (client_first server_first : List ℕ) → Challenged
login_of mechanism e act_as client_first server_first = challenged_login (entry_in e act_as) mechanism client_first server_first

-- the number and the server-final message are those of the verdict that is due, and the number is 0 exactly if the login is valid
pub record IsVerdict (login : Challenged) (client_final : List ℕ) (number : ℕ) (server_final : List ℕ) : Type 0 where
  pub due : Due
  pub is_due : IsDue login client_final due
  pub is_number : number ≡ due_number due
  pub is_message : server_final ≡ due_text due
  pub valid : (number ≡ 0) ↔ IsValidLogin login client_final server_final

-- the verdict is told, and its message is in the buffer
pub record IsJudged (login : Challenged) (client_final : List ℕ) (number : ℕ) (old new : List ℕ) (len : ℕ) : Type 0 where
  pub server_final : List ℕ
  pub is_verdict : IsVerdict login client_final number server_final
  pub is_put : IsPut old new server_final
  pub is_len : len ≡ length server_final

-- the message due fits into so many bytes
abbrev pub final_fits : Challenged → (client_final : List ℕ) → (room : ℕ) → Demand
final_fits login client_final room = demand 93 ((due : Due) → IsDue login client_final due → length (due_text due) ≤ room)
