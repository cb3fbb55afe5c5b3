-- The log of a login stays the log of its desk at each step, also at one that fails, unless the fault is that the log has failed.
use Rattle.std.proofs.Common.{◌≡◌, ◌≢◌, inl, inr, ℕ, List, [], ◌∷◌, ◌++◌, Option, refl, sym, ◌∙◌, ap, subst}
use Rattle.std.specs.Prelude.{IfErr, OnOk}
use Rattle.std.specs.declared.result.Result.{Result}
use Rattle.std.specs.declared.result.Result.TheVariants.{Err, Ok}
use Rattle.std.specs.Io.KnownBytes.{Appends}
use Rattle.std.proofs.KnownBytes.{Appends-trans}
use Rattle.account_book.specs.{BookFields}
use Rattle.account_book.specs.Store.{StoreFacts}
use Rattle.command_line.specs.declared.fault.Fault.{Fault}
use Rattle.log_grammar.specs.Lines.{LogLine, log_bytes}
use Rattle.sasl_log.specs.Source.{SourceFacts}
use Rattle.sasl_log.specs.Sink.{SinkFacts}
use Rattle.sasl_desk.specs.Inputs.{event_read}
use Rattle.sasl_desk.specs.Events.{ClientEvent}
use Rattle.sasl_desk.specs.Runs.{Request, greets, hears, Call, call_of, run_lines}
use Rattle.sasl_desk.specs.Desks.{IsDeskAfter, Answers, IsSameDesk}
use Rattle.sasl_desk.specs.Serves.{IsNotDone, Service, service_of, IsTurnServed, IsTurnFault}
use Rattle.sasl_desk.specs.declared.desk.Desk.{Desk}
use Rattle.sasl_desk.specs.declared.desk.state.State.{State}
use Rattle.sasl_desk.specs.declared.fault.ServeFault.{ServeFault}
use Rattle.sasl_desk.specs.declared.fault.ServeFault.TheVariants.{Halted, Unwritable, NoMemory, WriteFault, LogFault}
use Rattle.sasl_desk.proofs.lemmas.turns.TurnBytes.{log_bytes-append}
use Rattle.commands.specs.DeskLog.{IsRequestWith}
use Rattle.commands.specs.inner.DeskLogSteps.{IsDeskLog, StaysDeskLog, StaysDeskLogWith, IsLogAfterFault, IsLogAfterFaultWith}
use Rattle.commands.specs.inner.TurnFaults.{IsFaultOfServing}

-- a desk with this book, store and state
abbrev desk_with : {S : Type 0} → (book : BookFields) → (store : S) → State → Desk S
desk_with book store state = record { keeper = record { book = book; store = store }; state = state }

-- a desk and its log before and after a step
module _ {S : Type 0} {facts : S → StoreFacts} {IsStored : List ℕ → Type 0} {IsNow : ℕ → Type 0} {old new : Desk S} {log log' : SinkFacts}
  where
    -- the log stays the desk's as it takes the lines of one more call
    next_call_keeps_log : (server_nonce : List ℕ) (request : Request) (lines : List LogLine) → IsRequestWith server_nonce IsNow request
        → ((start : BookFields) (calls : List Call) → IsDeskAfter facts IsStored start calls old
        → IsDeskAfter facts IsStored start (call_of request lines ∷ calls) new)
        → Appends log.given log'.given (log_bytes lines) → StaysDeskLogWith facts IsStored IsNow server_nonce old log new log'
    next_call_keeps_log server_nonce request lines is stands more start before l = record {
      calls = call_of request lines ∷ l.calls;
      stands = stands start l.calls l.stands;
      requests = (is, l.requests);
      logged = subst (λ (bytes : List ℕ). Appends before log'.given bytes) (sym (log_bytes-append (run_lines l.calls) lines))
          (Appends-trans before log.given log'.given (log_bytes (run_lines l.calls)) (log_bytes lines) l.logged more);
    }

    -- the log stays the desk's as it takes what the desk wrote into an empty buffer to greet a client
    pub greeting_keeps_log : {server_nonce wire wire' none written : List ℕ}
        → Answers facts IsStored old (greets server_nonce) wire wire' none written new → none ≡ [] → Appends log.given log'.given written
        → StaysDeskLogWith facts IsStored IsNow server_nonce old log new log'
    greeting_keeps_log {server_nonce = server_nonce} a empty put =
        next_call_keeps_log server_nonce (greets server_nonce) a.lines refl a.answers.stands
        (subst (λ (bytes : List ℕ). Appends log.given log'.given bytes)
        (a.logged ∙ ap (λ (l : List ℕ). l ++ log_bytes a.lines) empty) put)

    -- the log stays the desk's when it takes nothing and the desk stays the same
    same_desk_keeps_log : IsSameDesk old new → log' ≡ log → StaysDeskLog facts IsStored IsNow old log new log'
    same_desk_keeps_log same unlogged server_nonce start before l =
        let book = ap (λ (b : BookFields). desk_with b new.keeper.store new.state) same.book in
        let store = ap (λ (s : S). desk_with old.keeper.book s new.state) same.store in
        let state = ap (λ (s : State). desk_with old.keeper.book old.keeper.store s) same.state in
        let desk : new ≡ old = book ∙ (store ∙ state) in
        let kept = subst (λ (d : Desk S). IsDeskLog facts IsStored IsNow start before server_nonce d log) (sym desk) l in
        subst (λ (k : SinkFacts). IsDeskLog facts IsStored IsNow start before server_nonce new k) (sym unlogged) kept

    -- the log stays the desk's after a turn that was served
    pub served_turn_keeps_log : {moment : ℕ} {input input' : SourceFacts} {wire wire' : SinkFacts} {given given' : Option (List ℕ)}
        → IsTurnServed facts IsStored moment (service_of old input wire log given) (service_of new input' wire' log' given') → IsNow moment
        → StaysDeskLog facts IsStored IsNow old log new log'
    served_turn_keeps_log served now server_nonce =
        next_call_keeps_log server_nonce _ served.done.lines now served.done.answers.stands served.done.written.by_log

    -- the log stays the desk's after an event that was not done, or it is lost
    undone_turn_leaves_log : (event : ClientEvent) (moment : ℕ) (wire wire' : SinkFacts) (path : List ℕ) (why : ServeFault) (fault : Fault)
        → (why ≢ Halted → IsNow moment) → IsFaultOfServing path why fault
        → IsNotDone facts IsStored (hears event moment) old new wire wire' log log' why
        → IsLogAfterFault facts IsStored IsNow old log new log' fault
    undone_turn_leaves_log event moment wire wire' path Halted fault now is (same, unsent, unlogged) server_nonce =
        inr (same_desk_keeps_log same unlogged server_nonce)
    undone_turn_leaves_log event moment wire wire' path NoMemory fault now is (same, unsent, unlogged) server_nonce =
        inr (same_desk_keeps_log same unlogged server_nonce)
    undone_turn_leaves_log event moment wire wire' path Unwritable fault now never undone server_nonce = absurd never
    undone_turn_leaves_log event moment wire wire' path WriteFault fault now is undone server_nonce =
        inr (next_call_keeps_log server_nonce (hears event moment) undone.lines (now (λ same. cc same)) undone.answers.stands undone.logged)
    undone_turn_leaves_log event moment wire wire' path LogFault fault now is undone server_nonce =
        inl ((is, undone.log_fails), λ start before l. (_, undone.answers.stands start l.calls l.stands))

-- two steps of a desk, one after the other
module _ {S : Type 0} {facts : S → StoreFacts} {IsStored : List ℕ → Type 0} {IsNow : ℕ → Type 0} {server_nonce : List ℕ}
    {old middle new : Desk S} {a b c : SinkFacts} (first : StaysDeskLogWith facts IsStored IsNow server_nonce old a middle b) where
  -- what stays a desk's log in both steps stays its log
  pub two_steps_keep_log : StaysDeskLog facts IsStored IsNow middle b new c → StaysDeskLogWith facts IsStored IsNow server_nonce old a new c
  two_steps_keep_log second start before l = second _ start before (first start before l)

  -- what is true of the log after a fault in the second step is true of it after both
  pub fault_after_step_leaves_log : {fault : Fault} → IsLogAfterFault facts IsStored IsNow middle b new c fault
      → IsLogAfterFaultWith facts IsStored IsNow server_nonce old a new c fault
  fault_after_step_leaves_log second = elim (second server_nonce) [
    | inl (failed, stands) ↦ inl (failed, λ start before l. stands start before (first start before l))
    | inr stays ↦ inr (λ start before l. stays start before (first start before l))
  ]

-- a desk whose log it was as a run began has answered calls when the run has ended, also after a fault
pub desk_stands_at_end : {S : Type 0} {facts : S → StoreFacts} {IsStored : List ℕ → Type 0} {IsNow : ℕ → Type 0} {server_nonce : List ℕ}
    {old new : Desk S} {a : SinkFacts} (b : SinkFacts) {T : Type 0} (result : Result T Fault) {start : BookFields} {before : Option (List ℕ)}
    → OnOk result (StaysDeskLogWith facts IsStored IsNow server_nonce old a new b)
    → IfErr result (IsLogAfterFaultWith facts IsStored IsNow server_nonce old a new b)
    → IsDeskLog facts IsStored IsNow start before server_nonce old a → (calls : List Call) × IsDeskAfter facts IsStored start calls new
desk_stands_at_end b (Ok done) stays after_fault l = let last = stays _ _ l in (last.calls, last.stands)
desk_stands_at_end b (Err fault) done (inl (failed, stands)) l = stands _ _ l
desk_stands_at_end b (Err fault) done (inr stays) l = let last = stays _ _ l in (last.calls, last.stands)

module _ {S : Type 0} {facts : S → StoreFacts} {IsStored : List ℕ → Type 0} {IsNow : ℕ → Type 0} (moment : ℕ) (old new : Service S)
    (path : List ℕ) where
  -- after a turn that was not served the log is still the desk's, or it is lost
  pub unserved_turn_leaves_log : (why : ServeFault) (fault : Fault) → (why ≢ Halted → IsNow moment)
      → IsTurnFault facts IsStored moment old new why → IsFaultOfServing path why fault
      → IsLogAfterFault facts IsStored IsNow old.desk old.log new.desk new.log fault
  unserved_turn_leaves_log Halted fault now same is =
      subst (λ (s : Service S). IsLogAfterFault facts IsStored IsNow old.desk old.log s.desk s.log fault) (sym same)
      (λ server_nonce. inr (λ start before l. l))
  unserved_turn_leaves_log NoMemory fault now (read, reads, asked, undone) is =
      undone_turn_leaves_log (event_read read) moment old.wire new.wire path NoMemory fault now is undone
  unserved_turn_leaves_log Unwritable fault now served never = absurd never
  unserved_turn_leaves_log WriteFault fault now (read, reads, asked, undone) is =
      undone_turn_leaves_log (event_read read) moment old.wire new.wire path WriteFault fault now is undone
  unserved_turn_leaves_log LogFault fault now (read, reads, asked, undone) is =
      undone_turn_leaves_log (event_read read) moment old.wire new.wire path LogFault fault now is undone
