-- What a client holds after each of its steps, and why it ends a login (RFC 5802, section 5).
use Rattle.std.specs.Prelude.{ℕ, ◌≡◌, ◌≤◌, ◌<◌, false, List, [], ◌∷◌, ◌++◌, length}
use Rattle.std.specs.List.{AllByRecursion}
use Rattle.std.specs.declared.result.Result.{Result}
use Rattle.std.specs.declared.result.Result.TheVariants.{Ok, Err}
use Rattle.scram_text.specs.Messages.{ClientFirstParts, gs2_header, client_first_bare, ServerFirstParts, IsServerFirst, server_first_mandatory}
use Rattle.scram_text.specs.Messages.{verifier, ServerFinalParts, IsServerFinal, server_final_mandatory}
use Rattle.scram_text.specs.FirstUnmet.{IsFirstUnmet}
use Rattle.scram_text.specs.Written.{IsClientFinalWithoutProof}
use Rattle.scram_text.specs.Faults.{IsServerFirstFault, IsServerFinalFault}
use Rattle.scram_text.specs.declared.fault.WriteFault.{WriteFault}
use Rattle.scram_ends.specs.Stages.{Started, Answered}
use Rattle.scram_ends.specs.Honest.{IsHonestFirst, IsHonest, honest_signature}
use Rattle.scram_ends.specs.declared.client.Limits.{Limits}
use Rattle.scram_ends.specs.declared.client.ClientAnswer.{ClientAnswer}
use Rattle.scram_ends.specs.declared.client.ClientOne.{ClientOne}
use Rattle.scram_ends.specs.declared.client.ClientTwo.{ClientTwo}
use Rattle.scram_ends.specs.declared.client.OneRefused.{OneRefused}
use Rattle.scram_ends.specs.declared.client.OneRefused.TheVariants.{Spent, Back}
use Rattle.scram_ends.specs.declared.client.ClientFault.{ClientFault}
use Rattle.scram_ends.specs.declared.client.ClientFault.TheVariants.{Text, Mandatory, NonceNotMine, NonceNotLonger, CountOutside, ServerRefused}
use Rattle.scram_ends.specs.declared.client.ClientFault.TheVariants.{WrongSignature}

-- the least iteration count that a client usually accepts: the minimum that RFC 5802, section 5.1, recommends to servers
abbrev pub usual_least : ℕ
usual_least = 4096

-- the greatest iteration count that a client usually accepts: this library's own choice
abbrev pub usual_most : ℕ
usual_most = 1000000

-- the iteration counts that a client usually accepts
abbrev pub AreUsual : Limits → Type 0
AreUsual limits = (limits.least ≡ usual_least) × (limits.most ≡ usual_most)

-- the client stands for this login: it has sent the login's first message, and waits for the challenge
pub record StandsForStarted (client : ClientOne) (login : Started) : Type 0 where
  pub first : ClientFirstParts
  pub is_first : IsHonestFirst login.name login.authzid login.nonce login.client_first first
  pub mechanism : client.mechanism ≡ login.mechanism
  pub limits : client.limits ≡ login.limits
  pub bare : client.bare.items ≡ client_first_bare first
  pub header : client.header.items ≡ gs2_header first
  pub nonce : client.nonce.items ≡ login.nonce

-- the client stands for this login: it has sent the login's client-final message, as an honest client builds it, and expects this
-- signature from the server
pub record StandsForAnswered (client : ClientTwo) (login : Answered) : Type 0 where
  pub honest : IsHonest login
  pub signature : List ℕ
  pub signed : signature ≡ honest_signature login honest
  pub expected : client.expected.items ≡ signature

-- the answer is the client-final message of this login, before its proof, and the proof, as an honest client builds them, and the
-- signature that the client then expects from the server
pub record IsAnswer (answer : ClientAnswer) (login : Answered) : Type 0 where
  pub honest : IsHonest login
  pub without_proof : IsClientFinalWithoutProof answer.without_proof honest.final
  pub proof : answer.proof.items ≡ honest.final.proof
  pub expected : answer.expected.items ≡ honest_signature login honest

-- the faults of a server-first message that a client is to answer, in the order in which they are judged. Text is not among them:
-- it is the fault of a text that is not a server-first message.
abbrev pub challenge_faults_in_order : List ClientFault
challenge_faults_in_order = Mandatory ∷ NonceNotMine ∷ NonceNotLonger ∷ CountOutside ∷ []

-- what each of these rows asks of the parts of a challenge, for a client with these limits and this nonce of its own: no mandatory
-- extension; a nonce that begins with the client's; a nonce longer than the client's; a count within the limits. Any other fault is
-- not a row: nothing would meet it.
abbrev pub AsksOfChallenge : ClientFault → Limits → (client_nonce : List ℕ) → ServerFirstParts → Type 0
AsksOfChallenge Mandatory limits client_nonce challenge = server_first_mandatory challenge ≡ false
AsksOfChallenge NonceNotMine limits client_nonce challenge = (more : List ℕ) × (challenge.nonce ≡ client_nonce ++ more)
AsksOfChallenge NonceNotLonger limits client_nonce challenge = length client_nonce < length challenge.nonce
AsksOfChallenge CountOutside limits client_nonce challenge = (limits.least ≤ challenge.count) × (challenge.count ≤ limits.most)
AsksOfChallenge other limits client_nonce challenge = ⊥

-- a client with these limits and this nonce of its own answers the challenge: its parts meet every row
pub record IsAnswerable (limits : Limits) (client_nonce server_first : List ℕ) (challenge : ServerFirstParts) : Type 0 where
  pub is_challenge : IsServerFirst server_first challenge
  pub asked : AllByRecursion (λ row. AsksOfChallenge row limits client_nonce challenge) challenge_faults_in_order

-- why a client with these limits and this nonce of its own does not answer a challenge: Text, if the text is not a server-first
-- message, with its first fault; else the first row that its parts do not meet
abbrev pub IsChallengeFault : Limits → (client_nonce server_first : List ℕ) → ClientFault → Type 0
IsChallengeFault limits client_nonce server_first (Text fault) =
    ((challenge : ServerFirstParts) → IsServerFirst server_first challenge → ⊥)
    × IsServerFirstFault server_first fault
IsChallengeFault limits client_nonce server_first fault = (challenge : ServerFirstParts) × IsServerFirst server_first challenge
    × IsFirstUnmet (λ row. AsksOfChallenge row limits client_nonce challenge) challenge_faults_in_order fault

-- the client has not ended the login: it has answered the challenge, or is handed back because its answer was not written
abbrev pub IsUnspent : Result ClientTwo OneRefused → Type 0
IsUnspent (Ok two) = Unit {0}
IsUnspent (Err (Back client fault)) = Unit {0}
IsUnspent (Err (Spent fault)) = ⊥

-- the fact is true of the fault, if the client has ended the login
abbrev pub IfSpent : Result ClientTwo OneRefused → (ClientFault → Type 0) → Type 0
IfSpent (Ok two) fact = Unit {0}
IfSpent (Err (Back client fault)) fact = Unit {0}
IfSpent (Err (Spent fault)) fact = fact fault

-- the fact is true of the client and the fault, if the client is handed back
abbrev pub IfBack : Result ClientTwo OneRefused → (ClientOne → WriteFault → Type 0) → Type 0
IfBack (Ok two) fact = Unit {0}
IfBack (Err (Back client fault)) fact = fact client fault
IfBack (Err (Spent fault)) fact = Unit {0}

-- the faults of a server-final message, in the order in which they are judged. Text is not among them: it is the fault of a text
-- that is not a server-final message.
abbrev pub server_final_faults_in_order : List ClientFault
server_final_faults_in_order = Mandatory ∷ ServerRefused ∷ WrongSignature ∷ []

-- what each of these rows asks of the parts of server-final, for a client that expects this signature: no mandatory extension; a
-- verifier, and no `e=`; this signature as the verifier. Any other fault is not a row: nothing would meet it.
abbrev pub AsksOfServerFinal : ClientFault → (signature : List ℕ) → ServerFinalParts → Type 0
AsksOfServerFinal Mandatory signature last = server_final_mandatory last ≡ false
AsksOfServerFinal ServerRefused signature last = (sent : List ℕ) × (last.verifier_or_error ≡ verifier sent)
AsksOfServerFinal WrongSignature signature last = last.verifier_or_error ≡ verifier signature
AsksOfServerFinal other signature last = ⊥

-- why a client that expects this signature does not accept the server as authentic: Text, if the text is not a server-final message,
-- with its first fault; else the first row that its parts do not meet
abbrev pub IsNotAuthenticFault : (signature server_final : List ℕ) → ClientFault → Type 0
IsNotAuthenticFault signature server_final (Text fault) = ((last : ServerFinalParts) → IsServerFinal server_final last → ⊥)
    × IsServerFinalFault server_final fault
IsNotAuthenticFault signature server_final fault = (last : ServerFinalParts) × IsServerFinal server_final last
    × IsFirstUnmet (λ row. AsksOfServerFinal row signature last) server_final_faults_in_order fault
