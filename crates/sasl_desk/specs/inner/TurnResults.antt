-- Where a turn leaves a session, and the lines of the turn.
use Rattle.std.specs.Prelude.{ℕ, ◌≡◌, ◌⊎◌, List, [], ◌∷◌, ◌++◌}
use Rattle.std.specs.declared.option.Option.{Option}
use Rattle.std.specs.declared.option.Option.TheVariants.{None, Some}
use Rattle.otp_core.specs.Attempt.{CodeTexts}
use Rattle.account_book.specs.Store.{StoreFacts}
use Rattle.book_keeper.specs.Keeper.{IsCodeJudged}
use Rattle.book_keeper.specs.declared.keeper.Keeper.{Keeper}
use Rattle.book_keeper.specs.declared.keeper.CodeJudged.{CodeJudged}
use Rattle.book_keeper.specs.declared.keeper.CodeJudged.TheVariants.{Replied, NotSaved}
use Rattle.log_grammar.specs.Lines.{LogLine, said, heard, replies, halt, code_line, IsLogLineWritable}
use Rattle.log_grammar.specs.Places.{Place}
use Rattle.log_grammar.specs.Demands.{Accounts}
use Rattle.sasl_log.specs.Logins.{KeepsEntries}
use Rattle.sasl_desk.specs.Events.{ClientEvent}
use Rattle.sasl_desk.specs.inner.Prefix.{prefixed_bytes}
use Rattle.sasl_desk.specs.Runs.{wire_bytes}
use Rattle.sasl_desk.specs.Sessions.{IsSessionAt, CanBeWritten}
use Rattle.sasl_desk.specs.inner.SessionTurns.{IsTurnOnEvent, IsDueCode, turn_lines}
use Rattle.sasl_desk.specs.declared.session.Session.{Session}
use Rattle.sasl_desk.specs.declared.session.Session.TheVariants.{WaitCode}
use Rattle.sasl_desk.specs.declared.session.event.Turn.{Turn}
use Rattle.sasl_desk.specs.declared.turn.AfterTurn.{AfterTurn}
use Rattle.sasl_desk.specs.declared.turn.AfterTurn.TheVariants.{Going, Closed, Halted}

-- a session that continues, or one that has ended
abbrev pub after_turn_of : Option Session → AfterTurn
after_turn_of (Some session) = Going session
after_turn_of None = Closed

-- the lines of a code that was judged, or of two in a row: that of the client, and the reply or `HALT`
abbrev pub judged_lines : (moment : ℕ) → CodeTexts → CodeJudged → List LogLine
judged_lines moment sent (Replied reply) = heard (code_line sent) ∷ said (replies moment reply) ∷ []
judged_lines moment sent NotSaved = heard (code_line sent) ∷ said halt ∷ []

-- where a code of this account's client leaves its session
abbrev pub after_judged : (name : List ℕ) → CodeJudged → AfterTurn
after_judged name (Replied reply) = Going (WaitCode name)
after_judged name NotSaved = Halted (WaitCode name)

-- the session answered what its client did
pub record SessionAnswers {S : Type 0} (old : Keeper S) (session : Session) (server_nonce : List ℕ) (event : ClientEvent)
    (lines : List LogLine) (after : AfterTurn) (new : Keeper S) : Type 0 where
  pub turn : Turn
  pub message : List ℕ
  pub hears : (accounts : Accounts) (place : Place) → KeepsEntries accounts old.book → IsSessionAt accounts place session
      → IsTurnOnEvent accounts server_nonce event place turn message
  pub lines_are : lines ≡ turn_lines turn message
  pub writable : CanBeWritten lines
  pub is_left : after ≡ after_turn_of turn.answer.session
  pub same : new ≡ old

-- the session waits for a code of this account, and the client sent one, or two in a row
pub record AsksJudgement {S : Type 0} (old : Keeper S) (session : Session) (event : ClientEvent)
    (name : List ℕ) (sent : CodeTexts) : Type 0 where
  pub waits : session ≡ WaitCode name
  pub asks : (accounts : Accounts) (place : Place) → KeepsEntries accounts old.book → IsSessionAt accounts place session
      → IsDueCode event place name sent
  pub writable : IsLogLineWritable (heard (code_line sent))

-- lines were written to the log, each after its prefix, and what the server says in them was sent
pub record AreLoggedAndSent (number : Option ℕ) (lines : List LogLine) (wire wire' log log' : List ℕ) : Type 0 where
  pub logged : log' ≡ log ++ prefixed_bytes number lines
  pub sent : wire' ≡ wire ++ wire_bytes lines

-- what comes of a turn: `facts` are those of the keeper's store, and `IsStored` is true of each text that is stored
module _ {S : Type 0} (facts : S → StoreFacts) (IsStored : List ℕ → Type 0) where
  -- the keeper judged a code that the client sent, or two in a row
  pub record KeeperReplies (old : Keeper S) (name : List ℕ) (moment : ℕ) (sent : CodeTexts) (lines : List LogLine) (after : AfterTurn)
      (new : Keeper S) : Type 0 where
    pub judged : CodeJudged
    pub is_judged : IsCodeJudged IsStored old.book (facts old.store) name moment sent judged new.book (facts new.store)
    pub lines_are : lines ≡ judged_lines moment sent judged
    pub is_left : after ≡ after_judged name judged

  -- the outcome of what a session's client did: an answer of the session, or a reply of the keeper
  abbrev pub IsTurnOf : Keeper S → Session → (server_nonce : List ℕ) → ClientEvent → (moment : ℕ) → List LogLine → AfterTurn
      → Keeper S → Type 0
  IsTurnOf old session server_nonce event moment lines after new =
      SessionAnswers old session server_nonce event lines after new
      ⊎ ((name : List ℕ) × (sent : CodeTexts) × AsksJudgement old session event name sent
      × KeeperReplies old name moment sent lines after new)

  -- a code was judged, and its lines were written
  abbrev pub IsCodeTurn : Keeper S → (name : List ℕ) → (moment : ℕ) → CodeTexts → (number : Option ℕ) → (wire wire' log log' : List ℕ)
      → AfterTurn → Keeper S → Type 0
  IsCodeTurn old name moment sent number wire wire' log log' after new =
      (lines : List LogLine) × KeeperReplies old name moment sent lines after new × AreLoggedAndSent number lines wire wire' log log'

  -- a turn was taken, and its lines were written
  abbrev pub IsTurnWritten : Keeper S → Session → (server_nonce : List ℕ) → ClientEvent → (moment : ℕ) → (number : Option ℕ)
      → (wire wire' log log' : List ℕ) → AfterTurn → Keeper S → Type 0
  IsTurnWritten old session server_nonce event moment number wire wire' log log' after new =
      (lines : List LogLine) × IsTurnOf old session server_nonce event moment lines after new
      × AreLoggedAndSent number lines wire wire' log log'
