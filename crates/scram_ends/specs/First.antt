-- The server's answer to client-first (RFC 5802, sections 3 and 5.1): its challenge, or the first fault.
use Rattle.std.specs.Prelude.{ℕ, ◌≡◌, false, List, [], ◌∷◌, ◌++◌}
use Rattle.std.specs.declared.option.Option.{Option}
use Rattle.scram_text.specs.Messages.{ClientFirstParts, IsClientFirst, client_first_mandatory, IsServerFirst}
use Rattle.scram_text.specs.FirstUnmet.{IsFirstUnmet}
use Rattle.scram_text.specs.Faults.{IsClientFirstFault}
use Rattle.scram_text.specs.Written.{server_first_of}
use Rattle.scram_ends.specs.Entry.{Entry}
use Rattle.scram_ends.specs.Opening.{IsNameOf, IsAuthzidOf, IsUnbound, IsTakenUp, Opening, IsOpening}
use Rattle.scram_ends.specs.declared.first.FirstFault.{FirstFault}
use Rattle.scram_ends.specs.declared.first.FirstFault.TheVariants.{Text, Mandatory, BindingAsked, OutsideProfile}
use Rattle.scram_ends.specs.declared.recorded.RecordedFault.{RecordedFault}
use Rattle.scram_ends.specs.declared.recorded.RecordedFault.TheVariants.{First, NotThisChallenge}

-- the server's challenge to a client-first message: the client's nonce followed by the server's own part, the entry's salt and count, and
-- no extensions
pub record IsChallengeTo (entry : Entry) (client_first server_nonce server_first : List ℕ) : Type 0 where
  pub first : ClientFirstParts
  pub is_first : IsClientFirst client_first first
  pub is_challenge : IsServerFirst server_first (server_first_of (first.nonce ++ server_nonce) entry.salt entry.count [])

-- the faults of a client-first message, in the order in which they are judged. Text is not among them: it is the fault of a text
-- that is not a client-first message.
abbrev pub client_first_faults_in_order : List FirstFault
client_first_faults_in_order = Mandatory ∷ BindingAsked ∷ OutsideProfile ∷ []

-- what each of these rows asks of the parts of client-first: no mandatory extension; a flag that asks for no channel binding; plain
-- names. Text is not a row: nothing would meet it.
abbrev pub AsksOfClientFirst : FirstFault → ClientFirstParts → Type 0
AsksOfClientFirst (Text fault) first = ⊥
AsksOfClientFirst Mandatory first = client_first_mandatory first ≡ false
AsksOfClientFirst BindingAsked first = IsUnbound first.flag
AsksOfClientFirst OutsideProfile first =
    (name : List ℕ) × (authzid : Option (List ℕ)) × IsNameOf name first.name × IsAuthzidOf authzid first.authzid

-- why a server does not take up a login: Text, if the text is not a client-first message, with its first fault; else the first row
-- that its parts do not meet
abbrev pub IsRefusedWith : (client_first : List ℕ) → FirstFault → Type 0
IsRefusedWith client_first (Text fault) = ((first : ClientFirstParts) → IsClientFirst client_first first → ⊥)
    × IsClientFirstFault client_first fault
IsRefusedWith client_first fault = (first : ClientFirstParts) × IsClientFirst client_first first
    × IsFirstUnmet (λ row. AsksOfClientFirst row first) client_first_faults_in_order fault

-- why two recorded texts open no login of this entry: First, if a server does not take up the first text; NotThisChallenge, if it
-- does and the second text is not a challenge to it
abbrev pub IsRecordedFault : Entry → (client_first server_first : List ℕ) → RecordedFault → Type 0
IsRecordedFault entry client_first server_first (First fault) = IsRefusedWith client_first fault
IsRecordedFault entry client_first server_first NotThisChallenge =
    ((first : ClientFirstParts) × (name : List ℕ) × (authzid : Option (List ℕ)) × IsClientFirst client_first first
    × IsTakenUp first name authzid)
    × ((opening : Opening) → IsOpening entry client_first server_first opening → ⊥)
