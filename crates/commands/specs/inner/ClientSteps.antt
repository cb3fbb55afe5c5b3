-- What the client of `login` may say at each step, and how its login ends.
use Rattle.std.specs.Prelude.{ℕ, ◌≡◌, Bool, true, false, List}
use Rattle.scram_text.specs.Messages.{ServerFirstParts}
use Rattle.scram_ends.specs.{name_of}
use Rattle.scram_ends.specs.Stages.{Started, Answered, answered_login}
use Rattle.scram_ends.specs.Client.{StandsForStarted, IsAnswerable, StandsForAnswered}
use Rattle.scram_ends.specs.Login.{IsAuthentic}
use Rattle.log_grammar.specs.Lines.{IsLine, auth_with, resp, from_server, mechs, cont, accepts}
use Rattle.commands.specs.Talked.{Talked}
use Rattle.commands.specs.declared.login.client_end.ClientEnd.{ClientEnd}
use Rattle.commands.specs.declared.login.client_end.User.{User}
use Rattle.commands.specs.declared.login.client_end.Next.{Next}
use Rattle.commands.specs.declared.login.client_end.Next.TheVariants.{Says, LoggedIn, Leaves}
use Rattle.commands.specs.declared.login.client_end.Stage.{Stage}
use Rattle.commands.specs.declared.login.client_end.Stage.TheVariants.{Silent, Begun, Proved, Ended}
use Rattle.commands.specs.ClientEnd.{said_line, IsLoginStartedBy, OffersNone, HasNoChallenge, DoesNotAccept, IsLoggedIn, IsNotLoggedIn}

-- the fact is true of what the client says, if it says anything
abbrev pub IfSays : Next → (List ℕ → Type 0) → Type 0
IfSays (Says line) fact = fact line.items
IfSays LoggedIn fact = Unit {0}
IfSays Leaves fact = Unit {0}

-- the client has sent the first message of this login, and waits for the challenge
abbrev pub WaitsForChallenge : Stage → Started → Type 0
WaitsForChallenge (Begun client) login = StandsForStarted client login
WaitsForChallenge stage login = ⊥

-- the client has sent its proof in this login, and waits for the server's signature
abbrev pub WaitsForSignature : Stage → Answered → Type 0
WaitsForSignature (Proved client) login = StandsForAnswered client login
WaitsForSignature stage login = ⊥

-- the client of this user begins a login with this nonce, when it is offered these mechanisms: it says the one that is chosen and
-- the first message of the login
pub record BeginsLogin (user : User) (nonce names said : List ℕ) (stage : Stage) : Type 0 where
  pub login : Started
  pub is_of_user : IsLoginStartedBy user nonce names login
  pub waits : WaitsForChallenge stage login
  pub line : said ≡ said_line (auth_with (name_of login.mechanism) login.client_first)

-- the client answers the challenge of a login, which has no fault, with this password: it says the last message of the login
pub record AnswersChallenge (login : Started) (password server_first said : List ℕ) (stage : Stage) : Type 0 where
  pub challenge : ServerFirstParts
  pub answerable : IsAnswerable login.limits login.nonce server_first challenge
  pub client_final : List ℕ
  pub waits : WaitsForSignature stage (answered_login login password server_first client_final)
  pub line : said ≡ said_line (resp client_final)

-- what a client may say when it receives a line. When it receives the mechanisms, it begins a login with the one that is chosen.
-- When it receives the challenge of a login that it has begun, it answers that. It says nothing else.
abbrev pub MaySay : ClientEnd → Stage → (received said : List ℕ) → Stage → Type 0
MaySay client Silent received said new =
    (names : List ℕ) × IsLine received (from_server (mechs names)) × BeginsLogin client.user client.nonce names said new
MaySay client (Begun one) received said new =
    (server_first : List ℕ) × IsLine received (from_server (cont server_first))
    × ((login : Started) → StandsForStarted one login → AnswersChallenge login client.password server_first said new)
MaySay client (Proved two) received said new = ⊥
MaySay client Ended received said new = ⊥

-- the client has sent its proof, and the line accepts it with the signature that the client expects: the server has the
-- account's keys (RFC 5802, section 5)
abbrev pub ShowsKeys : Stage → (line : List ℕ) → Type 0
ShowsKeys (Proved client) line = (message : List ℕ) × IsLine line (from_server (accepts message))
    × ((login : Answered) (expecting : StandsForAnswered client login) → IsAuthentic message expecting.signature)
ShowsKeys stage line = ⊥

-- the client of a user has to leave at a line: it offers no mechanism that the client takes, or it is not a challenge that the client
-- may answer in its login, or it does not accept that login with the signature that the client expects
abbrev pub HasToLeave : User → Stage → (received : List ℕ) → Type 0
HasToLeave user Silent received = OffersNone user.mechanism received
HasToLeave user (Begun client) received = (login : Started) → StandsForStarted client login → HasNoChallenge login received
HasToLeave user (Proved client) received =
    (login : Answered) (expecting : StandsForAnswered client login) → DoesNotAccept expecting.signature received
HasToLeave user Ended received = Unit {0}

-- how a login ends: whether the client is logged in
abbrev pub EndsLogin : User → (nonce password : List ℕ) → (old : Talked) → (is_in : Bool) → (new : Talked) → Type 0
EndsLogin user nonce password old true new = IsLoggedIn user nonce password old new
EndsLogin user nonce password old false new = IsNotLoggedIn user nonce password old new
