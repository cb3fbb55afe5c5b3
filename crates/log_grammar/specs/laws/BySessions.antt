-- Clean logs in terms of the sessions that they are made of, the line at fault in terms of the clean logs that lines begin, and the
-- account of each code in terms of the login of its session.
use Rattle.std.specs.Prelude.{ℕ, ◌≡◌, ◌⊎◌, ◌↔◌, List, [], ◌∷◌, ◌++◌, flat_map}
use Rattle.std.specs.List.{AllByRecursion}
use Rattle.otp_core.specs.Attempt.{CodeTexts}
use Rattle.scram_text.specs.SplitLines.{IsSplit}
use Rattle.account_book.specs.AccountAttempt.{AccountAttempt}
use Rattle.log_grammar.specs.Lines.{LogLine, header_one, said, ended, halt, mechs, log_bytes, IsLogLineWritable}
use Rattle.log_grammar.specs.laws.LastLines.{EndsWith}
use Rattle.log_grammar.specs.Places.{got_code}
use Rattle.log_grammar.specs.Demands.{Accounts, IsTakenUpFor, demands}
use Rattle.log_grammar.specs.laws.FitAccounts.{AllCanBeChallenged}
use Rattle.log_grammar.specs.Sessions.{RecordedSession, session_lines, session_told, SessionMeets}
use Rattle.log_grammar.specs.Histories.{IsHistory}
use Rattle.log_grammar.specs.Begins.{Begins}
use Rattle.log_grammar.specs.VersionOne.{version_one}
use Rattle.log_grammar.specs.LogKinds.{IsCleanOf}
use Rattle.log_grammar.specs.Versions.{IsFaultLine}
use Rattle.log_grammar.specs.laws.LogLaws.{IsFirstOutsideCleanLogs}
use Rattle.log_grammar.specs.laws.Logins.{IsSentBy}

-- the session is closed: `E` is its last line
abbrev pub IsClosed : RecordedSession → Type 0
IsClosed s = EndsWith (session_lines s) (ended ∷ [])

-- the session halted: `S HALT` is its last line
abbrev pub IsHalted : RecordedSession → Type 0
IsHalted s = EndsWith (session_lines s) (said halt ∷ [])

-- each session except the last is closed, and the last is closed or halted
abbrev pub AreFinished : List RecordedSession → Type 0
AreFinished [] = Unit {0}
AreFinished (s ∷ []) = IsClosed s ⊎ IsHalted s
AreFinished (s ∷ t ∷ more) = IsClosed s × AreFinished (t ∷ more)

-- the bytes are a log of version 1 made of these sessions
pub record IsLogOf (accounts : Accounts) (bytes : List ℕ) (sessions : List RecordedSession) : Type 0 where
  -- the bytes are `SCRAMLOG 1` and the lines of the sessions, each ended by an LF
  pub spelled : bytes ≡ log_bytes (header_one ∷ flat_map session_lines sessions)
  pub lines : AllByRecursion IsLogLineWritable (flat_map session_lines sessions)
  -- each session is closed, or is the last one and halted
  pub finished : AreFinished sessions
  -- each session meets its demands
  pub good : AllByRecursion (SessionMeets (demands accounts)) sessions
  -- the replies to each account in all sessions, in order, are a legal history of its token
  pub histories : (account : List ℕ) → IsHistory (accounts.token account) account (flat_map session_told sessions)

-- a log of version 1 is clean if and only if it is that of some sessions
abbrev pub CleanLogsAreThoseOfSessions : Type 0
CleanLogsAreThoseOfSessions = (accounts : Accounts) (bytes : List ℕ)
    → IsCleanOf (version_one accounts) bytes ↔ ((sessions : List RecordedSession) × IsLogOf accounts bytes sessions)

-- if a challenge can be written for each name, a line is the fault line if and only if it is the first that begins no clean log
abbrev pub FaultLinesBeginNoCleanLog : Type 0
FaultLinesBeginNoCleanLog = (accounts : Accounts) → AllCanBeChallenged accounts
    → (bytes : List ℕ) (texts : List (List ℕ)) (rest : List ℕ) (k : ℕ)
    → IsSplit bytes texts rest → IsFaultLine accounts bytes k ↔ IsFirstOutsideCleanLogs accounts bytes texts k

-- the session begins with `S MECHS` and the lines with which the client sends this first message
abbrev pub HasFirst : RecordedSession → (mechanism client_first : List ℕ) → Type 0
HasFirst s mechanism client_first =
    (names : List ℕ) × (sent : List LogLine) × (more : List LogLine) × IsSentBy mechanism client_first sent
    × (session_lines s ≡ said (mechs names) ∷ sent ++ more)

-- the client-first message of the session names this account
abbrev pub IsLoginOf : RecordedSession → List ℕ → Type 0
IsLoginOf s account =
    (mechanism : List ℕ) × (client_first : List ℕ) × HasFirst s mechanism client_first × IsTakenUpFor mechanism client_first account

-- in a session that meets its demands, the account of each code that is answered is the one that the client-first message names
abbrev pub EachCodeIsOfItsLogin : Type 0
EachCodeIsOfItsLogin = (accounts : Accounts) (s : RecordedSession) → SessionMeets (demands accounts) s
    → AllByRecursion (λ t. IsLoginOf s t.account) (session_told s)

-- the lines end with those of a session whose client-first message names this account
abbrev pub EndsInLoginOf : List LogLine → List ℕ → Type 0
EndsInLoginOf log account = (s : RecordedSession) × EndsWith log (session_lines s) × IsLoginOf s account

-- when the reply to a code is due, the last lines are those of a session whose client-first message names the account
abbrev pub EachReplyDueFollowsItsLogin : Type 0
EachReplyDueFollowsItsLogin = (accounts : Accounts) (log : List LogLine) (account : List ℕ) (sent : CodeTexts) (told : List AccountAttempt)
    → Begins (demands accounts) log (got_code account sent) told → EndsInLoginOf log account
