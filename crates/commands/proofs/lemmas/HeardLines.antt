-- What a hall hears from the lines of its input, one after another.
use Rattle.std.proofs.Common.{◌≡◌, inl, inr, ℕ, ◌≤◌, Bool, List, [], ◌∷◌, ◌++◌, reverse, length, Option, None, append-nil, sym, subst}
use Rattle.std.specs.Prelude.{IfErr, OnOk}
use Rattle.std.specs.Io.KnownBytes.{Appends, IsAtEnd}
use Rattle.std.specs.declared.result.Result.{Result}
use Rattle.std.specs.declared.result.Result.TheVariants.{Err, Ok}
use Rattle.std.proofs.lemmas.Grind.{reverse_onto}
use Rattle.account_book.specs.{BookFields}
use Rattle.account_book.specs.Store.{StoreFacts}
use Rattle.command_line.specs.declared.fault.Fault.{Fault}
use Rattle.log_grammar.specs.Books.{accounts_in}
use Rattle.log_grammar.specs.Numbered.{Numbered, of_number}
use Rattle.log_grammar.specs.Places.{Place, between}
use Rattle.sasl_log.specs.Sink.{SinkFacts}
use Rattle.sasl_desk.specs.Halls.{HallFields, hall_shown, hall_bytes, phase_of_number, IsPhaseOrNoneOf, IsSessionRun, IsHallAfter}
use Rattle.sasl_desk.specs.Runs.{Call}
use Rattle.sasl_desk.specs.declared.session.phase.Phase.{Phase}
use Rattle.sasl_desk.specs.declared.hall.Hall.{Hall}
use Rattle.sasl_desk.proofs.lemmas.halls.Logs.{log_is_a_front}
use Rattle.sasl_desk.proofs.lemmas.halls.Phases.{phases_are_those_of_places}
use Rattle.sasl_desk.proofs.lemmas.halls.Stores.{log_is_saved}
use Rattle.command_io.specs.Input.{line_bytes, TakesLine}
use Rattle.command_io.proofs.lemmas.InputLines.{end_has_no_lines, taken_line_begins_lines, some_lines}
use Rattle.commands.specs.Hall.{InputEvent, opens, does_at, IsBadEventAfter, AreCallsFor, PrintsHallLog}
use Rattle.commands.specs.inner.HallSteps.{IsBadEvent, IsHallLogOf, Hears, HearsLine, HearsUpTo, HearsAllLines, HearsFirstLines, LosesHallLog, MayHaveHeard, MeetsBadEvent, PrintsToBadEvent}
use Rattle.commands.specs.PrintedLog.{StopsAfter}
use Rattle.commands.proofs.lemmas.HallLogs.{hearings_join}
use Rattle.commands.proofs.lemmas.HaltedLogs.{failed_store_ends_hall_log}

-- a hall has come to a place in its input: hearing events from there on extends what it has heard since the start
abbrev pub HallHasCome : {S : Type 0} → (S → StoreFacts) → (IsStored : List ℕ → Type 0) → (first : Option (List ℕ)) → (start : Hall S)
    → (log : SinkFacts) → (left : Option (List ℕ)) → (now : Hall S)
    → (log' : SinkFacts) → Type 0
HallHasCome {S} facts IsStored first start a left now b =
    (last : List (List ℕ)) (new : Hall S) (c : SinkFacts) → HearsUpTo facts IsStored left last now b new c
    → HearsUpTo facts IsStored first last start a new c

-- what a hall hears of a line and of the lines after it
module _ {S : Type 0} {facts : S → StoreFacts} {IsStored : List ℕ → Type 0} {left rest : Option (List ℕ)} {last : List (List ℕ)}
    {now next new : Hall S} {a b c : SinkFacts} where
  -- what is heard of a line and of the lines after it begins with the line's event
  hearing_begins_with_line : {line : List ℕ} {has_lf : Bool} → TakesLine left line has_lf rest → 1 ≤ length (line_bytes line has_lf)
      → HearsLine facts IsStored line now a next b → HearsUpTo facts IsStored rest last next b new c
      → HearsUpTo facts IsStored left last now a new c
  hearing_begins_with_line {line = line} {has_lf = has_lf} takes some (event, said, heard) more = record {
    says = record {
      lines = line ∷ more.says.lines;
      events = event ∷ more.says.events;
      are = taken_line_begins_lines left line has_lf rest takes some (more.says.lines ++ last) more.says.are;
      said = (said, more.says.said);
    };
    heard = subst (λ (l : List InputEvent). Hears facts IsStored l now a new c) (sym (reverse_onto more.says.events event []))
        (hearings_join (event ∷ []) (reverse more.says.events) heard more.heard);
  }

-- a hall that has come to a place in its input
module _ {S : Type 0} {facts : S → StoreFacts} {IsStored : List ℕ → Type 0} {first left : Option (List ℕ)} {start now : Hall S}
    {a b : SinkFacts} (come : HallHasCome facts IsStored first start a left now b) where
  -- a hall at the end of its input has heard what each line says
  pub hall_at_end_heard_all : IsAtEnd left → HearsUpTo facts IsStored first [] start a now b
  hall_at_end_heard_all end =
      come [] now b (record {
        says = record { lines = []; events = []; are = end_has_no_lines left end; said = tt };
        heard = λ start before earlier l. l;
      })

  -- a hall has heard the lines before the place to which it has come
  hall_heard_lines_before : (last : List (List ℕ)) × HearsUpTo facts IsStored first last start a now b
  hall_heard_lines_before =
      let more = some_lines left in (
        more.0,
        come more.0 now b (record {
          says = record { lines = []; events = []; are = more.1; said = tt };
          heard = λ start before earlier l. l;
        }),
      )

  -- after a fault before the next line was read, a hall has heard the first lines of its input
  pub hall_before_line_heard_first : (fault : Fault) → HearsFirstLines facts IsStored first start a now b fault
  hall_before_line_heard_first fault = inr hall_heard_lines_before

  -- if the log is lost in what a hall hears next, it is lost in what the hall has heard since the start
  lost_log_stays_lost : {new : Hall S} (c : SinkFacts) {fault : Fault} → LosesHallLog facts IsStored now b new c fault
      → LosesHallLog facts IsStored start a new c fault
  lost_log_stays_lost c (failed, stands) =
      (failed, λ book before earlier l. stands book before _ (hall_heard_lines_before.1.heard book before earlier l))

-- a hall that has come to a line of its input
module _ {S : Type 0} {facts : S → StoreFacts} {IsStored : List ℕ → Type 0} {first left rest : Option (List ℕ)} {start now : Hall S}
    {a b : SinkFacts} {line : List ℕ} {has_lf : Bool} (come : HallHasCome facts IsStored first start a left now b)
    (takes : TakesLine left line has_lf rest) (some : 1 ≤ length (line_bytes line has_lf)) where
  -- a hall that has heard the event of a line has come to what is left after the line
  pub hall_comes_past_line : {next : Hall S} {c : SinkFacts} → HearsLine facts IsStored line now b next c
      → HallHasCome facts IsStored first start a rest next c
  hall_comes_past_line heard last new d more = come last new d (hearing_begins_with_line takes some heard more)

  -- a line that a hall does not hear is the first of those that are left
  unheard_line_is_left : {new : Hall S} {c : SinkFacts} → Hears facts IsStored [] now b new c
      → (last : List (List ℕ)) × HearsUpTo facts IsStored first (line ∷ last) start a new c
  unheard_line_is_left {new = new} {c = c} none =
      let more = some_lines rest in (
        more.0,
        come (line ∷ more.0) new c (record {
          says =
              record { lines = []; events = []; are = taken_line_begins_lines left line has_lf rest takes some more.0 more.1; said = tt };
          heard = none;
        }),
      )

  -- after a fault at a line, a hall has heard the lines before it, and this line or not; or the log is lost
  pub hall_at_line_heard_first : {new : Hall S} {c : SinkFacts} (fault : Fault)
      → MayHaveHeard facts IsStored (HearsLine facts IsStored line) now b new c fault
      → HearsFirstLines facts IsStored first start a new c fault
  hall_at_line_heard_first {c = c} fault (inl lost) = inl (lost_log_stays_lost come c lost)
  hall_at_line_heard_first fault (inr (inl none)) = let found = unheard_line_is_left none in inr (line ∷ found.0, found.1)
  hall_at_line_heard_first fault (inr (inr heard)) = hall_before_line_heard_first (hall_comes_past_line heard) fault

  -- a hall that has come to a line that is bad for it meets a bad event there
  pub hall_meets_bad_event : IsBadEvent line (hall_shown now) → MeetsBadEvent facts IsStored first start a now b
  hall_meets_bad_event bad =
      let found = unheard_line_is_left (λ start before earlier l. l) in (line, found.0, found.1, bad)

-- a hall whose log it was as a run began has answered calls when the run has ended, also after a fault
pub hall_stands_at_end : {S : Type 0} {facts : S → StoreFacts} {IsStored : List ℕ → Type 0} (input : Option (List ℕ)) {old new : Hall S}
    {a : SinkFacts} (b : SinkFacts) (result : Result (Unit {0}) Fault) {start : BookFields} {before : Option (List ℕ)}
    → OnOk result (HearsAllLines facts IsStored input old a new b) → IfErr result (HearsFirstLines facts IsStored input old a new b)
    → IsHallLogOf facts IsStored start before [] old a → (calls : List (Numbered Call)) × IsHallAfter facts IsStored start calls (hall_shown new)
hall_stands_at_end input b (Ok done) heard after_fault l = let last = heard.heard _ _ [] l in (last.calls, last.stands)
hall_stands_at_end input b (Err fault) done (inl (failed, stands)) l = stands _ _ [] l
hall_stands_at_end input b (Err fault) done (inr (last, heard)) l = let last = heard.heard _ _ [] l in (last.calls, last.stands)

-- a hall that stands for its calls
module _ {S : Type 0} {facts : S → StoreFacts} {IsStored : List ℕ → Type 0} {start : BookFields} {calls : List (Numbered Call)}
    {hall : HallFields S} (s : IsHallAfter facts IsStored start calls hall) where
  -- if a hall has no session of a number, its calls have left none open
  closed_session_is_between : (n : ℕ) → phase_of_number hall n ≡ None → IsSessionRun (accounts_in start) (of_number n calls) between
  closed_session_is_between n none =
      let at : s.places n ≡ between = subst (λ (p : Option Phase). IsPhaseOrNoneOf (s.places n) p) none (phases_are_those_of_places s n) in
      subst (λ (p : Place). IsSessionRun (accounts_in start) (of_number n calls) p) at (s.session_runs n)

  -- a line that is bad for a hall is bad after the calls of the hall
  bad_line_stays_bad : (line : List ℕ) → IsBadEvent line hall → IsBadEventAfter (accounts_in start) calls line
  bad_line_stays_bad line (inl nothing) = inl nothing
  bad_line_stays_bad line (inr (opens server_nonce, said, never)) = absurd never
  bad_line_stays_bad line (inr (does_at n event moment, said, none)) =
      inr (does_at n event moment, said, closed_session_is_between n none)

-- what a hall prints that began with this book
module _ {S : Type 0} {facts : S → StoreFacts} {IsStored : List ℕ → Type 0} {book : BookFields} {input given before after : Option (List ℕ)}
    {old new : Hall S} {log log' : SinkFacts}
    (was : given ≡ before) (is : after ≡ log'.given) (begun : IsHallLogOf facts IsStored book given [] old log) where
  -- a hall prints the log of what it heard of its input, and that log is a front
  pub hall_prints_its_log : {last : List (List ℕ)} → HearsUpTo facts IsStored input last old log new log'
      → PrintsHallLog IsStored book input last (facts new.keeper.store) before after
  hall_prints_its_log heard =
      let hall = heard.heard book given [] begun in record {
        says = heard.says;
        calls = hall.calls;
        heard = subst (λ (events : List InputEvent). AreCallsFor events hall.calls) (append-nil (reverse heard.says.events)) hall.heard;
        runs = λ n. (hall.stands.places n, hall.stands.session_runs n);
        is_front = log_is_a_front hall.stands;
        saved = log_is_saved hall.stands;
        halts = failed_store_ends_hall_log hall.stands;
        printed = subst (λ (o : Option (List ℕ)). Appends before o (hall_bytes hall.calls)) (sym is)
            (subst (λ (o : Option (List ℕ)). Appends o log'.given (hall_bytes hall.calls)) was hall.logged);
      }

  -- after a fault, a hall that has begun has printed the log of what it heard of its input's first lines, or the output can't be written
  pub hall_stops_after : {Unbegun : Type 0} (fault : Fault) → HearsFirstLines facts IsStored input old log new log' fault
      → StopsAfter fault Unbegun before after
      ((last : List (List ℕ)) × PrintsHallLog IsStored book input last (facts new.keeper.store) before after)
  hall_stops_after fault (inl ((output, failed), stands)) = inl output
  hall_stops_after fault (inr (last, heard)) = inr (inr (last, hall_prints_its_log heard))

  -- a hall that meets a bad event prints the log of what it heard before, and the next line is bad after that
  pub hall_prints_to_bad_event : MeetsBadEvent facts IsStored input old log new log'
      → PrintsToBadEvent IsStored book (facts new.keeper.store) input before after
  unfolding hall_prints_its_log
  hall_prints_to_bad_event (line, last, heard, bad) =
      let hall = heard.heard book given [] begun in (
        line,
        last,
        hall_prints_its_log heard,
        bad_line_stays_bad hall.stands line bad,
      )
