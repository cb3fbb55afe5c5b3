-- What a hall stands for: the book with which it began, and the run since, of all its sessions.
use Rattle.std.specs.Prelude.{ℕ, ◌≡◌, ◌≢◌, ◌⊎◌, ◌↔◌, ◌+◌, ◌<◌, ◌≤◌, true, false, Bool, List, [], ◌∷◌, ◌++◌, map, reverse, length, count_by}
use Rattle.std.specs.List.{AllByRecursion, find}
use Rattle.std.specs.List.Sorted.{IsPermutation}
use Rattle.std.specs.declared.option.Option.{Option}
use Rattle.std.specs.declared.option.Option.TheVariants.{None, Some}
use Rattle.scram_text.specs.SplitLines.{ended_by_lf}
use Rattle.account_book.specs.{BookFields}
use Rattle.account_book.specs.Store.{StoreFacts}
use Rattle.account_book.specs.AccountAttempt.{AccountAttempt}
use Rattle.account_book.specs.SavedBooks.{HoldsBook}
use Rattle.account_book.specs.Tokens.{IsBookAfterAttempts}
use Rattle.book_keeper.specs.declared.keeper.Keeper.{Keeper}
use Rattle.log_grammar.specs.Books.{accounts_in}
use Rattle.log_grammar.specs.Lines.{LogLine, header_two, said, ended, halt, busy, log_bytes}
use Rattle.log_grammar.specs.laws.LastLines.{EndsWith}
use Rattle.log_grammar.specs.Places.{Place, between, offered, waits_first, waits_final, waits_code, open_at}
use Rattle.log_grammar.specs.Demands.{Accounts, demands}
use Rattle.log_grammar.specs.Numbered.{Numbered, numbered, of_number, given_in, closed_in, IsNumberedLogUpTo}
use Rattle.log_grammar.specs.Versions.{max_open_sessions}
use Rattle.log_grammar.specs.NumberedLines.{numbered_text, IsNumberedLineWritable, max_session_number}
use Rattle.sasl_desk.specs.Desks.{session_phase, IsStoredAt}
use Rattle.sasl_desk.specs.OpenSessions.{has_number}
use Rattle.sasl_desk.specs.Runs.{Request, greets, Call, call_of, server_nonce_of, wire_bytes, IsRun}
use Rattle.sasl_desk.specs.SavedCalls.{CountsSaves, AsksToSaveAttempt, IsQuiet, LeavesFailedStore}
use Rattle.sasl_desk.specs.Sessions.{IsSessionAt}
use Rattle.sasl_desk.specs.declared.hall.Hall.{Hall}
use Rattle.sasl_desk.specs.declared.hall.open_session.OpenSession.{OpenSession}
use Rattle.sasl_desk.specs.declared.session.phase.Phase.{Phase}
use Rattle.sasl_desk.specs.declared.session.phase.Phase.TheVariants as phase

-- what definitions say of a hall: its parts, but not how it keeps its sessions in memory
pub record HallFields (S : Type 0) : Type 0 where
  pub keeper : Keeper S
  -- its open sessions, in any order
  pub open_sessions : List OpenSession
  -- how many session numbers it has given
  pub given : ℕ
  -- whether it has halted
  pub is_halted : Bool

-- a hall of these parts
abbrev pub hall_of : {S : Type 0} → Keeper S → (open_sessions : List OpenSession) → (given : ℕ) → (is_halted : Bool) → HallFields S
hall_of keeper open_sessions given is_halted =
    record { keeper = keeper; open_sessions = open_sessions; given = given; is_halted = is_halted }

-- the fields of a hall
abbrev pub hall_shown : {S : Type 0} → Hall S → HallFields S
hall_shown hall = hall_of hall.keeper hall.open_sessions hall.given hall.is_halted

-- the lines of a log after its first, after these calls: each call's lines have the number of its session
abbrev pub hall_lines : List (Numbered Call) → List (Numbered LogLine)
hall_lines [] = []
hall_lines (call ∷ before) = hall_lines before ++ map (numbered call.number) call.value.lines

-- the bytes of numbered lines, each with its LF
abbrev pub numbered_bytes : List (Numbered LogLine) → List ℕ
numbered_bytes lines = ended_by_lf (map numbered_text lines)

-- the bytes of a log after these calls
abbrev pub hall_bytes : List (Numbered Call) → List ℕ
hall_bytes calls = log_bytes (header_two ∷ []) ++ numbered_bytes (hall_lines calls)

-- the lines with which a session is turned away
abbrev pub busy_lines : List LogLine
busy_lines = said busy ∷ ended ∷ []

-- a session was turned away: its greeting was answered by BUSY, and nothing more was asked of it
abbrev pub IsTurnedAway : List Call → Type 0
IsTurnedAway calls = (server_nonce : List ℕ) × (calls ≡ call_of (greets server_nonce) busy_lines ∷ [])

-- the calls of one session, the latest first, each with the lines that answer it, as at a desk; or the session was turned away. The
-- session is then at this place.
abbrev pub IsSessionRun : Accounts → List Call → Place → Type 0
IsSessionRun accounts calls place = IsRun accounts calls place ⊎ (IsTurnedAway calls × (place ≡ between))

-- a session is at the place of its number, with the server's part of the nonce with which it was greeted
abbrev pub IsOpenSessionAt : Accounts → List (Numbered Call) → (ℕ → Place) → OpenSession → Type 0
IsOpenSessionAt accounts calls places open_session =
    IsSessionAt accounts (places open_session.number) open_session.session
    × (open_session.server_nonce ≡ server_nonce_of (of_number open_session.number calls))

-- what the store holds after these calls: if the latest was answered by `S HALT`, its save has failed; else the book
abbrev pub IsStoredAfter : (IsStored : List ℕ → Type 0) → Accounts → List (Numbered Call) → (ℕ → Place) → BookFields → StoreFacts → Type 0
IsStoredAfter IsStored accounts [] places book store = HoldsBook IsStored book store
IsStoredAfter IsStored accounts (call ∷ before) places book store =
    IsStoredAt IsStored accounts (of_number call.number (call ∷ before)) (places call.number) book store

-- the phase is that of this place: what the client may do there, or Closed if no session is open. Nothing is said of Halted, since
-- a halt may come at any place.
abbrev pub IsPhaseOf : Place → Phase → Type 0
IsPhaseOf place phase.Closed = place ≡ between
IsPhaseOf place phase.WaitAuth = place ≡ offered
IsPhaseOf place phase.WaitFirst = (mechanism : List ℕ) × (place ≡ waits_first mechanism)
IsPhaseOf place phase.WaitFinal =
    (mechanism : List ℕ) × (account : List ℕ) × (client_first : List ℕ) × (server_first : List ℕ)
    × (place ≡ waits_final mechanism account client_first server_first)
IsPhaseOf place phase.WaitCode = (account : List ℕ) × (place ≡ waits_code account)
IsPhaseOf place phase.Halted = Unit {0}

-- the phase of a session: after a halt it is Halted
abbrev pub phase_after_halt : (is_halted : Bool) → Option OpenSession → Option Phase
phase_after_halt is_halted None = None
phase_after_halt true (Some open_session) = Some phase.Halted
phase_after_halt false (Some open_session) = Some (session_phase open_session.session)

-- the phase of the session of a number, or none if it is not open
abbrev pub phase_of_number : {S : Type 0} → HallFields S → ℕ → Option Phase
phase_of_number hall number = phase_after_halt hall.is_halted (find (has_number number) hall.open_sessions)

-- what `Hall::phase` returns of a session in this phase: none if the session has ended
abbrev pub phase_unless_ended : Phase → Option Phase
phase_unless_ended phase.Closed = None
phase_unless_ended phase = Some phase

-- two halls have the same book, store and open sessions, in any order, have given the same numbers, and have both halted or neither
pub record IsSameHall {S : Type 0} (old new : HallFields S) : Type 0 where
  pub book : new.keeper.book ≡ old.keeper.book
  pub store : new.keeper.store ≡ old.keeper.store
  pub open_sessions : IsPermutation old.open_sessions new.open_sessions
  pub given : new.given ≡ old.given
  pub halted : new.is_halted ≡ old.is_halted

-- the phase of the session of a number is that of its place, and there is none if and only if no session is open
abbrev pub IsPhaseOrNoneOf : Place → Option Phase → Type 0
IsPhaseOrNoneOf place None = place ≡ between
IsPhaseOrNoneOf place (Some phase) = (place ≢ between) × IsPhaseOf place phase

-- what a hall stands for, and what its calls do: `facts` are those of its store, and `IsStored` is true of each text that is stored
module _ {S : Type 0} (facts : S → StoreFacts) (IsStored : List ℕ → Type 0) where
  -- a hall that began with a book has answered these calls, each of the session of its number
  pub record IsHallAfter (start : BookFields) (calls : List (Numbered Call)) (hall : HallFields S) : Type 0 where
    -- where the session of each number stands, and the attempts by codes, each with its reply, in the order of the whole log
    pub places : ℕ → Place
    pub told : List AccountAttempt
    -- what each session was asked is recorded and answered; nothing was asked of a number that was not given
    pub session_runs : (number : ℕ) → IsSessionRun (accounts_in start) (of_number number calls) (places number)
    pub fresh : (number : ℕ) → given_in (hall_lines calls) < number → of_number number calls ≡ []
    -- the lines are those of a log of version 2, at most `max_open_sessions` of whose sessions are open at once, and they can be written
    pub begins : IsNumberedLogUpTo max_open_sessions (demands (accounts_in start)) (hall_lines calls) places told
    pub writable : AllByRecursion IsNumberedLineWritable (hall_lines calls)
    -- the numbers that were given are 1, 2, and so on
    pub given : hall.given ≡ given_in (hall_lines calls)
    pub last_number : hall.given ≤ max_session_number
    -- a session that is open is kept once, and no other number is kept
    pub open_sessions : (number : ℕ) → count_by (has_number number) hall.open_sessions ≡ open_at (places number)
    pub counted : length hall.open_sessions + closed_in (hall_lines calls) ≡ given_in (hall_lines calls)
    -- each open session waits for what is due at its place, or the hall has halted
    pub standing : hall.is_halted ≡ false → AllByRecursion (IsOpenSessionAt (accounts_in start) calls places) hall.open_sessions
    -- the book has each attempt in it, and the store holds its text, except after a save in which the store failed
    pub is_book : IsBookAfterAttempts start (reverse told) hall.keeper.book
    pub is_stored : IsStoredAfter IsStored (accounts_in start) calls places hall.keeper.book (facts hall.keeper.store)

  -- what a call of a session did: it added lines, and a hall that had answered some calls has now answered this one as well
  pub record AnswersIn (old : HallFields S) (number : ℕ) (request : Request) (phase_after : Phase) (wire wire' log log' : List ℕ)
      (new : HallFields S) : Type 0 where
    pub lines : List LogLine
    pub logged : log' ≡ log ++ numbered_bytes (map (numbered number) lines)
    pub sent : wire' ≡ wire ++ wire_bytes lines
    -- the hall has answered one more call, and the phase that is returned is that of the place where the session then stands
    pub stands : (start : BookFields) (calls : List (Numbered Call)) → IsHallAfter start calls old
        → (after : IsHallAfter start (numbered number (call_of request lines) ∷ calls) new) × IsPhaseOf (after.places number) phase_after
    -- unless the hall has halted, `Hall::phase` then returns the same phase, or none if the session has ended
    pub kept : (start : BookFields) (calls : List (Numbered Call)) → IsHallAfter start calls old
        → new.is_halted ≡ false → phase_of_number new number ≡ phase_unless_ended phase_after
    -- the phase that is returned is Halted if and only if the hall has halted
    pub shows_halt : (phase_after ≡ phase.Halted) ↔ (new.is_halted ≡ true)
    -- the store was asked for one save for each line that needs one, and was given a text of the book with the attempt of this call
    pub saves : (start : BookFields) (calls : List (Numbered Call)) → IsHallAfter start calls old
        → CountsSaves facts lines old.keeper new.keeper
    pub asks : (start : BookFields) (calls : List (Numbered Call)) (standing : IsHallAfter start calls old)
        → AsksToSaveAttempt facts request (standing.places number) lines old.keeper new.keeper
    pub quiet : IsQuiet facts lines old.keeper new.keeper
    -- a call halts the hall only by a save in which the store failed, and does so if and only if its last line is `S HALT`
    pub halts : new.is_halted ≡ true → LeavesFailedStore facts old.keeper new.keeper
    pub says_halt : (new.is_halted ≡ true) ↔ EndsWith lines (said halt ∷ [])
