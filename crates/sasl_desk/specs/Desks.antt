-- What a desk stands for: the book with which it began, and the run since.
use Rattle.std.specs.Prelude.{ℕ, ◌≡◌, ◌⊎◌, ◌↔◌, true, List, [], ◌∷◌, ◌++◌, reverse}
use Rattle.account_book.specs.{BookFields, IsBookText}
use Rattle.account_book.specs.SavedBooks.{HasStoredText, HoldsBook}
use Rattle.account_book.specs.Store.{StoreFacts}
use Rattle.account_book.specs.AccountAttempt.{AccountAttempt}
use Rattle.account_book.specs.Tokens.{IsBookAttempt, IsBookAfterAttempts}
use Rattle.book_keeper.specs.declared.keeper.Keeper.{Keeper}
use Rattle.log_grammar.specs.Books.{accounts_in}
use Rattle.log_grammar.specs.Lines.{LogLine, said, halt, log_bytes}
use Rattle.log_grammar.specs.laws.LastLines.{EndsWith}
use Rattle.log_grammar.specs.Places.{Place, between, halted}
use Rattle.log_grammar.specs.Demands.{Accounts, demands}
use Rattle.log_grammar.specs.Begins.{Begins}
use Rattle.sasl_desk.specs.Runs.{Request, Call, call_of, run_lines, server_nonce_of, wire_bytes, IsRun}
use Rattle.sasl_desk.specs.SavedCalls.{IsAttemptOf, CountsSaves, AsksToSaveAttempt, IsQuiet, LeavesFailedStore}
use Rattle.sasl_desk.specs.Sessions.{IsSessionAt, CanBeWritten}
use Rattle.sasl_desk.specs.declared.session.Session.{Session}
use Rattle.sasl_desk.specs.declared.session.Session.TheVariants.{WaitAuth, WaitFirst, WaitFinal, WaitCode}
use Rattle.sasl_desk.specs.declared.turn.AfterTurn.{AfterTurn}
use Rattle.sasl_desk.specs.declared.turn.AfterTurn.TheVariants.{Going}
use Rattle.sasl_desk.specs.declared.turn.AfterTurn.TheVariants as after
use Rattle.sasl_desk.specs.declared.desk.Desk.{Desk}
use Rattle.sasl_desk.specs.declared.desk.state.State.{State}
use Rattle.sasl_desk.specs.declared.desk.state.State.TheVariants.{Closed, Open, Halted}
use Rattle.sasl_desk.specs.declared.session.phase.Phase.{Phase}
use Rattle.sasl_desk.specs.declared.session.phase.Phase.TheVariants as phase

-- the phase of an open session, by what its client may do
abbrev pub session_phase : Session → Phase
session_phase WaitAuth = phase.WaitAuth
session_phase (WaitFirst mechanism) = phase.WaitFirst
session_phase (WaitFinal waiting) = phase.WaitFinal
session_phase (WaitCode name) = phase.WaitCode

-- the phase of a state: if a session is open, that of the session
abbrev pub state_phase : State → Phase
state_phase Closed = phase.Closed
state_phase (Open session server_nonce) = session_phase session
state_phase Halted = phase.Halted

-- the phase of a desk: what it waits for
abbrev pub desk_phase : {S : Type 0} → Desk S → Phase
desk_phase desk = state_phase desk.state

-- the state of a desk whose log is at this place. A desk that has halted may be at any place.
abbrev pub IsStateAt : Accounts → (server_nonce : List ℕ) → Place → State → Type 0
IsStateAt accounts server_nonce place Closed = place ≡ between
IsStateAt accounts server_nonce place (Open session own) = IsSessionAt accounts place session × (own ≡ server_nonce)
IsStateAt accounts server_nonce place Halted = Unit {0}

-- the latest call judged this attempt
abbrev pub IsLatestAttempt : Accounts → List Call → AccountAttempt → Type 0
IsLatestAttempt accounts [] attempt = ⊥
IsLatestAttempt accounts (call ∷ before) attempt =
    (place : Place) × IsRun accounts before place × IsAttemptOf call.request place call.lines attempt

-- the store failed while it saved the book with the attempt of the latest call
pub record IsLostAfter (IsStored : List ℕ → Type 0) (accounts : Accounts) (calls : List Call)
    (book : BookFields) (store : StoreFacts) : Type 0 where
  pub failed : store.failed ≡ true
  -- the latest call judged this attempt, which makes the next book
  pub attempt : AccountAttempt
  pub next : BookFields
  pub is_latest : IsLatestAttempt accounts calls attempt
  pub is_judged : IsBookAttempt book attempt next
  -- the failed save was given a text of the next book
  pub asked : IsBookText store.asked next
  -- the store says that it holds a text of the book before the attempt, which was saved, or one of the next book
  pub saved : (IsBookText store.saved book × IsStored store.saved) ⊎ IsBookText store.saved next
  -- some text of the book before the attempt was saved
  pub before : HasStoredText IsStored book

-- what the store holds when the log is at this place: after `S HALT` the last save has failed; at every other place the store holds
-- the book
abbrev pub IsStoredAt : (IsStored : List ℕ → Type 0) → Accounts → List Call → Place → BookFields → StoreFacts → Type 0
IsStoredAt IsStored accounts calls halted book store = IsLostAfter IsStored accounts calls book store
IsStoredAt IsStored accounts calls place book store = HoldsBook IsStored book store

-- what a run that kept this book may leave, wherever it stops: this book, or this book with one more attempt
abbrev pub MayLeave : (kept left : BookFields) → Type 0
MayLeave kept left = (left ≡ kept) ⊎ ((attempt : AccountAttempt) × IsBookAttempt kept attempt left)

-- the text is that of a book that a run which kept this book may leave
abbrev pub IsTextLeft : (kept : BookFields) → (text : List ℕ) → Type 0
IsTextLeft kept text = (left : BookFields) × MayLeave kept left × IsBookText text left

-- the desk of this keeper, in this state
abbrev pub desk_of : {S : Type 0} → Keeper S → State → Desk S
desk_of keeper state = record { keeper = keeper; state = state }

-- two desks have the same book, store and state
pub record IsSameDesk {S : Type 0} (old new : Desk S) : Type 0 where
  pub book : new.keeper.book ≡ old.keeper.book
  pub store : new.keeper.store ≡ old.keeper.store
  pub state : new.state ≡ old.state

-- the state of a desk whose session was left in this way
abbrev pub state_after : AfterTurn → (server_nonce : List ℕ) → State
state_after (Going session) server_nonce = Open session server_nonce
state_after after.Closed server_nonce = Closed
state_after (after.Halted session) server_nonce = Halted

-- what a desk stands for, and what its calls do: `facts` are those of its store, and `IsStored` is true of each text that is stored
module _ {S : Type 0} (facts : S → StoreFacts) (IsStored : List ℕ → Type 0) where
  -- a desk that began with a book has answered these calls
  pub record IsDeskAfter (start : BookFields) (calls : List Call) (desk : Desk S) : Type 0 where
    -- where the log stands, and the attempts by codes in it, each with its reply
    pub place : Place
    pub told : List AccountAttempt
    -- what was asked is recorded and answered
    pub is_run : IsRun (accounts_in start) calls place
    -- a clean log may begin with the log's lines, and they can be written
    pub begins : Begins (demands (accounts_in start)) (run_lines calls) place told
    pub writable : CanBeWritten (run_lines calls)
    -- the session waits for what is due there, or the desk has halted
    pub is_state : IsStateAt (accounts_in start) (server_nonce_of calls) place desk.state
    -- the book has each attempt in it, and the store holds its text, except after a save in which the store failed
    pub is_book : IsBookAfterAttempts start (reverse told) desk.keeper.book
    pub is_stored : IsStoredAt IsStored (accounts_in start) calls place desk.keeper.book (facts desk.keeper.store)

  -- what a call did to a desk and its store
  pub record AnswersCall (old : Desk S) (call : Call) (new : Desk S) : Type 0 where
    -- a desk that had answered some calls has now answered this one as well
    pub stands : (start : BookFields) (calls : List Call) → IsDeskAfter start calls old → IsDeskAfter start (call ∷ calls) new
    -- the store was asked for one save for each line that needs one, and was given a text of the book with the attempt of this call
    pub saves : (start : BookFields) (calls : List Call) → IsDeskAfter start calls old → CountsSaves facts call.lines old.keeper new.keeper
    pub asks : (start : BookFields) (calls : List Call) (standing : IsDeskAfter start calls old)
        → AsksToSaveAttempt facts call.request standing.place call.lines old.keeper new.keeper
    pub quiet : IsQuiet facts call.lines old.keeper new.keeper

  -- what a call did: it added lines, and a desk answered it
  pub record Answers (old : Desk S) (request : Request) (wire wire' log log' : List ℕ) (new : Desk S) : Type 0 where
    pub lines : List LogLine
    pub logged : log' ≡ log ++ log_bytes lines
    pub sent : wire' ≡ wire ++ wire_bytes lines
    pub answers : AnswersCall old (call_of request lines) new
    -- a call halts the desk only by a save in which the store failed, and does so if and only if its last line is `S HALT`
    pub halts : desk_phase new ≡ phase.Halted → LeavesFailedStore facts old.keeper new.keeper
    pub says_halt : (desk_phase new ≡ phase.Halted) ↔ EndsWith lines (said halt ∷ [])
