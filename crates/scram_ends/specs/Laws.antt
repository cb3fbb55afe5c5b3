-- The laws of logins: exactly one verdict is due, acceptance is due if and only if the login is valid, and honest logins succeed.
use Rattle.std.specs.Prelude.{ℕ, ◌≡◌, ◌≤◌, ◌↔◌, List, length}
use Rattle.std.specs.List.{AllByRecursion}
use Rattle.std.specs.declared.option.Option.{Option}
use Rattle.std.specs.declared.option.Option.TheVariants.{Some}
use Rattle.scram_text.specs.Messages.{ClientFirstParts, IsClientFirst}
use Rattle.scram_ends.specs.Entry.{Entry, password_keys}
use Rattle.scram_ends.specs.Stages.{Challenged, Answered, challenged_login}
use Rattle.scram_ends.specs.Opening.{Opening, IsOpening, IsTakenUp, IsAllowed}
use Rattle.scram_ends.specs.Verdict.{Due, accept, IsDue, due_text}
use Rattle.scram_ends.specs.Login.{IsAuthentic, IsValidLogin}
use Rattle.scram_ends.specs.First.{IsChallengeTo, IsRefusedWith, AsksOfClientFirst, client_first_faults_in_order}
use Rattle.scram_ends.specs.declared.first.FirstFault.{FirstFault}
use Rattle.scram_ends.specs.Honest.{IsHonest, honest_signature}

-- at most one verdict is due to a text
abbrev pub AtMostOneVerdictIsDue : Type 0
AtMostOneVerdictIsDue = (login : Challenged) (client_final : List ℕ) (due other : Due)
    → IsDue login client_final due → IsDue login client_final other → due ≡ other

-- after an opening, some verdict is due to every text
abbrev pub SomeVerdictIsDue : Type 0
SomeVerdictIsDue = (login : Challenged) (client_final : List ℕ) (opening : Opening)
    → IsOpening login.entry login.client_first login.server_first opening → (due : Due) × IsDue login client_final due

-- a client-first message that is refused is not taken up, whatever its parts
abbrev pub RefusedIsNotTakenUp : Type 0
RefusedIsNotTakenUp = (client_first : List ℕ) (fault : FirstFault) (first : ClientFirstParts) (name : List ℕ) (authzid : Option (List ℕ))
    → IsRefusedWith client_first fault → IsClientFirst client_first first → IsTakenUp first name authzid → ⊥

-- a client-first message is taken up, with some names, if and only if its parts meet every row of the table of faults
abbrev pub TakenUpMeetsEveryRow : Type 0
TakenUpMeetsEveryRow = (first : ClientFirstParts)
    → ((name : List ℕ) × (authzid : Option (List ℕ)) × IsTakenUp first name authzid)
    ↔ AllByRecursion (λ row. AsksOfClientFirst row first) client_first_faults_in_order

-- a login is valid if and only if acceptance is due to its client-final message and its server-final message has the signature due
-- as its verifier
abbrev pub AcceptsExactlyValid : Type 0
AcceptsExactlyValid = (login : Challenged) (client_final server_final : List ℕ)
    → ((signature : List ℕ) × IsDue login client_final (accept signature) × IsAuthentic server_final signature)
    ↔ IsValidLogin login client_final server_final

-- an honest client logs in if the entry's keys are those of the password, the server challenges it and the name to act as is
-- allowed: acceptance is due with the signature that the client expects, the message due contains that signature, and the login is
-- valid
abbrev pub HonestLogsIn : Type 0
HonestLogsIn = (entry : Entry) (server_nonce : List ℕ) (answered : Answered)
    → entry.keys ≡ Some (password_keys answered.mechanism answered.password entry.salt entry.count)
    → IsAllowed entry answered.name answered.authzid → 1 ≤ length server_nonce
    → IsChallengeTo entry answered.client_first server_nonce answered.server_first → (honest : IsHonest answered)
    → let login = challenged_login entry answered.mechanism answered.client_first answered.server_first in
    let signature = honest_signature answered honest in
    IsDue login answered.client_final (accept signature) × IsAuthentic (due_text (accept signature)) signature
    × IsValidLogin login answered.client_final (due_text (accept signature))
