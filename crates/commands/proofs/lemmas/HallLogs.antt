-- The log of a hall after one more event.
use Rattle.std.proofs.Common.{◌≡◌, ◌⊎◌, inl, inr, ℕ, Bool, List, [], ◌∷◌, ◌++◌, sym, ◌∙◌, ap, subst, append_assoc}
use Rattle.std.specs.Prelude.{map}
use Rattle.std.specs.Io.KnownBytes.{Appends}
use Rattle.std.proofs.KnownBytes.{Appends-trans}
use Rattle.account_book.specs.{BookFields}
use Rattle.account_book.specs.Store.{StoreFacts}
use Rattle.command_io.specs.File.{IsFileUnwrittenOrNoMemory}
use Rattle.command_line.specs.declared.fault.Fault.{Fault}
use Rattle.command_line.specs.declared.fault.Fault.TheVariants.{BadEvent}
use Rattle.log_grammar.specs.Lines.{LogLine}
use Rattle.log_grammar.specs.Numbered.{Numbered, numbered}
use Rattle.sasl_log.specs.Sink.{SinkFacts}
use Rattle.sasl_desk.specs.Events.{ClientEvent}
use Rattle.sasl_desk.specs.Halls.{HallFields, hall_of, hall_shown, hall_bytes, numbered_bytes, IsHallAfter, AnswersIn, IsSameHall}
use Rattle.sasl_desk.specs.Runs.{Request, Call, call_of}
use Rattle.sasl_desk.specs.declared.session.phase.Phase.{Phase}
use Rattle.sasl_desk.specs.declared.hall.Hall.{Hall}
use Rattle.sasl_desk.proofs.lemmas.halls.CallBytes.{hall_bytes-next_call}
use Rattle.sasl_desk.proofs.lemmas.halls.Working.{reordered_hall_stands}
use Rattle.commands.specs.inner.TurnFaults.{IsLogFault, IsUnsavedOrUnlogged}
use Rattle.commands.specs.Hall.{InputEvent, opens, does_at, SaysEvent, SaysNoEvent, IsCallFor}
use Rattle.commands.specs.inner.HallSteps.{IsHallLogOf, Hears, MayHaveHeard}

-- a hall that is the same, up to the order of its open sessions, differs from what it was in its open sessions alone
same_hall_differs_in_open_sessions : {S : Type 0} (old new : HallFields S) → IsSameHall old new
    → new ≡ hall_of old.keeper new.open_sessions old.given old.is_halted
same_hall_differs_in_open_sessions {S} old new same =
    let book = ap (λ (b : BookFields). hall_of
    (record { book = b; store = new.keeper.store }) new.open_sessions new.given new.is_halted) same.book in
    let store = ap (λ (s : S). hall_of (record { book = old.keeper.book; store = s }) new.open_sessions new.given new.is_halted)
    same.store in
    let given = ap (λ (n : ℕ). hall_of old.keeper new.open_sessions n new.is_halted) same.given in
    let halted = ap (λ (b : Bool). hall_of old.keeper new.open_sessions old.given b) same.halted in
    book ∙ (store ∙ (given ∙ halted))

-- a hall and its log before and after a step
module _ {S : Type 0} {facts : S → StoreFacts} {IsStored : List ℕ → Type 0} {old new : Hall S} {log log' : SinkFacts} where
  -- a call by which the hall heard an event added what was put into the log
  pub answered_event_is_heard : {n : ℕ} {request : Request} {phase : Phase} {wire wire' none written : List ℕ} (event : InputEvent)
      → AnswersIn facts IsStored (hall_shown old) n request phase wire wire' none written (hall_shown new)
      → ((lines : List LogLine) → IsCallFor event (numbered n (call_of request lines))) → none ≡ []
      → Appends log.given log'.given written → Hears facts IsStored (event ∷ []) old log new log'
  answered_event_is_heard {n = n} {request = request} event a is empty put start before earlier l =
      let call : Numbered Call = numbered n (call_of request a.lines) in
      let more : List ℕ = numbered_bytes (map (numbered n) a.lines) in
      let putting = subst (λ (b : List ℕ). Appends log.given log'.given b) (a.logged ∙ ap (λ (b : List ℕ). b ++ more) empty) put in
      record {
        calls = call ∷ l.calls;
        heard = (is a.lines, l.heard);
        stands = (a.stands start l.calls l.stands).0;
        logged = subst (λ (b : List ℕ). Appends before log'.given b) (sym (hall_bytes-next_call call l.calls))
            (Appends-trans before log.given log'.given (hall_bytes l.calls) more l.logged putting);
      }

  -- a hall that stays the same, up to the order of its open sessions, while its log takes nothing has heard no event more
  pub same_hall_hears_nothing : IsSameHall (hall_shown old) (hall_shown new) → log' ≡ log → Hears facts IsStored [] old log new log'
  same_hall_hears_nothing same unlogged start before earlier l = record {
    calls = l.calls;
    heard = l.heard;
    stands = subst (λ (h : HallFields S). IsHallAfter facts IsStored start l.calls h)
        (sym (same_hall_differs_in_open_sessions (hall_shown old) (hall_shown new) same))
        (reordered_hall_stands same.open_sessions l.stands);
    logged = subst (λ (k : SinkFacts). Appends before k.given (hall_bytes l.calls)) (sym unlogged) l.logged;
  }

  -- after a call by which the hall heard an event, the log took what the hall wrote, or it is lost
  pub answered_event_may_be_heard : {n : ℕ} {request : Request} {phase : Phase} {wire wire' none written : List ℕ} {fault : Fault}
      (event : InputEvent) → AnswersIn facts IsStored (hall_shown old) n request phase wire wire' none written (hall_shown new)
      → ((lines : List LogLine) → IsCallFor event (numbered n (call_of request lines))) → none ≡ []
      → IsLogFault log' fault ⊎ Appends log.given log'.given written
      → MayHaveHeard facts IsStored (Hears facts IsStored (event ∷ [])) old log new log' fault
  answered_event_may_be_heard event a is empty (inl failed) =
      inl (failed, λ start before earlier l. (_, (a.stands start l.calls l.stands).0))
  answered_event_may_be_heard event a is empty (inr put) = inr (inr (answered_event_is_heard event a is empty put))

-- a hall that hears some events and then more has heard them all, one after another
pub hearings_join : {S : Type 0} {facts : S → StoreFacts} {IsStored : List ℕ → Type 0} (events more : List InputEvent)
    {old middle new : Hall S} {a b c : SinkFacts}
    → Hears facts IsStored events old a middle b → Hears facts IsStored more middle b new c
    → Hears facts IsStored (more ++ events) old a new c
hearings_join {facts = facts} {IsStored = IsStored} events more {new = new} {c = c} first second start before earlier l =
    subst (λ (all : List InputEvent). IsHallLogOf facts IsStored start before all new c) (sym (append_assoc more events earlier))
    (second start before (events ++ earlier) (first start before earlier l))

-- a fault of an unsaved book or a failed log is not a `BadEvent`
pub write_fault_excludes_bad_event : (path : List ℕ) (log : SinkFacts) (fault : Fault) → IsUnsavedOrUnlogged path log fault
    → fault ≡ BadEvent → ⊥
write_fault_excludes_bad_event path log fault (inl unwritten) is = let wrong = subst (IsFileUnwrittenOrNoMemory path) is unwritten in cc
    wrong
write_fault_excludes_bad_event path log fault (inr (output, failed)) is = cc (output, is)

-- a line that neither announces a client nor says what one does says no event
pub line_says_no_event : (line : List ℕ) → ((server_nonce : List ℕ) → SaysEvent line (opens server_nonce) → ⊥)
    → ((session moment : ℕ) (event : ClientEvent) → SaysEvent line (does_at session event moment) → ⊥) → SaysNoEvent line
line_says_no_event line opened done (opens server_nonce) is = opened server_nonce is
line_says_no_event line opened done (does_at n event m) is = done n m event is
