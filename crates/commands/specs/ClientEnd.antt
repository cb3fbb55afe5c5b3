-- What the client of the command `login` says, and when it is logged in (RFC 5802, sections 3 and 5).
use Rattle.std.specs.Prelude.{ℕ, ◌≡◌, ◌⊎◌, List, [], ◌∷◌, ◌++◌}
use Rattle.std.specs.Str.{byte}
use Rattle.std.specs.declared.option.Option.{Option}
use Rattle.std.specs.declared.option.Option.TheVariants.{None, Some}
use Rattle.scram_text.specs.Messages.{ClientFirstParts, ServerFirstParts}
use Rattle.scram_ends.specs.{name_of, IsOffered, Mechanism, ScramSha256}
use Rattle.scram_ends.specs.Stages.{Started, Answered, answered_login}
use Rattle.scram_ends.specs.Client.{AreUsual, IsAnswerable}
use Rattle.scram_ends.specs.Honest.{IsHonestFirst, IsHonest, honest_signature}
use Rattle.scram_ends.specs.Login.{IsAuthentic}
use Rattle.log_grammar.specs.Lines.{IsLine, ClientLine, auth_with, resp, client_text, from_server, mechs, cont, accepts}
use Rattle.commands.specs.Talked.{Talked, HasTalked}
use Rattle.commands.specs.declared.login.client_end.User.{User}

-- a line of the client, with its LF
abbrev pub said_line : ClientLine → List ℕ
said_line line = client_text line ++ byte "\n" ∷ []

-- the mechanism that is used: the one that the user asks for, whether or not the server offers it; else the best of those whose
-- names it offers (RFC 5802, section 4; RFC 7677 prefers SCRAM-SHA-256)
abbrev pub IsChosen : (asked : Option Mechanism) → (names : List ℕ) → Mechanism → Type 0
IsChosen (Some asked) names mechanism = mechanism ≡ asked
IsChosen None names mechanism = IsOffered mechanism names × (IsOffered ScramSha256 names → mechanism ≡ ScramSha256)

-- a login that the client of this user begins with this nonce, when it is offered these mechanisms
pub record IsLoginStartedBy (user : User) (nonce names : List ℕ) (login : Started) : Type 0 where
  pub is_mechanism : IsChosen user.mechanism names login.mechanism
  pub are_limits : AreUsual login.limits
  pub is_name : login.name ≡ user.name
  pub is_authzid : login.authzid ≡ user.authzid
  pub is_nonce : login.nonce ≡ nonce

-- a line offers no mechanism that the client takes
abbrev pub OffersNone : (asked : Option Mechanism) → (line : List ℕ) → Type 0
OffersNone asked line =
    (names : List ℕ) (mechanism : Mechanism) → IsLine line (from_server (mechs names)) → IsChosen asked names mechanism → ⊥

-- a line has no challenge that the client of this login may answer
abbrev pub HasNoChallenge : Started → (line : List ℕ) → Type 0
HasNoChallenge login line =
    (server_first : List ℕ) (challenge : ServerFirstParts) → IsLine line (from_server (cont server_first))
    → IsAnswerable login.limits login.nonce server_first challenge → ⊥

-- a line does not accept a login with this signature
abbrev pub DoesNotAccept : (signature line : List ℕ) → Type 0
DoesNotAccept signature line = (message : List ℕ) → IsLine line (from_server (accepts message)) → IsAuthentic message signature → ⊥

-- a client has received an offer of mechanisms, and has then begun this login of its user, with this nonce, by its first message
pub record HasBegun (user : User) (nonce received said : List ℕ) (login : Started) : Type 0 where
  pub offer : List ℕ
  pub names : List ℕ
  pub is_offer : IsLine offer (from_server (mechs names))
  pub is_received : received ≡ offer ++ byte "\n" ∷ []
  pub is_of_user : IsLoginStartedBy user nonce names login
  pub first : ClientFirstParts
  pub is_first : IsHonestFirst login.name login.authzid login.nonce login.client_first first
  pub is_said : said ≡ said_line (auth_with (name_of login.mechanism) login.client_first)

-- a client has begun a login of its user, with this nonce, has received its challenge, and has then sent its last message, with
-- this password
pub record HasProved (user : User) (nonce password received said : List ℕ) (login : Answered) : Type 0 where
  pub begun : Started
  pub received_before : List ℕ
  pub said_before : List ℕ
  pub has_begun : HasBegun user nonce received_before said_before begun
  pub is_login : login ≡ answered_login begun password login.server_first login.client_final
  pub challenge : List ℕ
  pub is_challenge : IsLine challenge (from_server (cont login.server_first))
  pub is_received : received ≡ received_before ++ (challenge ++ byte "\n" ∷ [])
  pub is_said : said ≡ said_before ++ said_line (resp login.client_final)

-- the client is logged in: in a login of this user, the server has shown that it has the account's keys (RFC 5802, section 3)
pub record IsLoggedIn (user : User) (nonce password : List ℕ) (old new : Talked) : Type 0 where
  -- the client has said the messages of this login, which are those of an honest client, and nothing else
  pub login : Answered
  pub honest : IsHonest login
  pub before : List ℕ
  pub said : List ℕ
  pub proved : HasProved user nonce password before said login
  -- the last line that the client receives is in the log, and accepts the login
  pub line : List ℕ
  pub message : List ℕ
  pub talked : HasTalked old new before said line
  pub is_acceptance : IsLine line (from_server (accepts message))
  -- this line has the signature that the keys of the password make over the login's messages
  pub authentic : IsAuthentic message (honest_signature login honest)

-- a client that has received and said this gets no further at a line: the line offers no mechanism that it takes; or it has begun a
-- login, and the line has no challenge that it may answer; or it has sent its last message, and the line does not accept the login with
-- the signature that the keys of the password make
abbrev pub GetsNoFurther : User → (nonce password received said line : List ℕ) → Type 0
GetsNoFurther user nonce password received said line =
    ((received ≡ []) × (said ≡ []) × OffersNone user.mechanism line)
    ⊎ (((login : Started) × HasBegun user nonce received said login × HasNoChallenge login line)
    ⊎ ((login : Answered) × (honest : IsHonest login) × HasProved user nonce password received said login
    × DoesNotAccept (honest_signature login honest) line))

-- the client is not logged in: in a login of this user it gets no further at the last line that it receives, which is in the log
pub record IsNotLoggedIn (user : User) (nonce password : List ℕ) (old new : Talked) : Type 0 where
  pub before : List ℕ
  pub said : List ℕ
  pub line : List ℕ
  pub talked : HasTalked old new before said line
  pub ends : GetsNoFurther user nonce password before said line
