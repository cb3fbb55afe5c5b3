-- The log of a login: that it stays the desk's log at each step, what of it is printed, and which faults end a talk.
use Rattle.std.proofs.Common.{◌≡◌, ◌≢◌, inl, inr, ℕ, Bool, Option, List, [], ◌∷◌, refl, sym, subst}
use Rattle.std.specs.Io.KnownBytes.{Appends}
use Rattle.account_book.specs.{BookFields}
use Rattle.account_book.specs.Store.{StoreFacts}
use Rattle.command_io.specs.File.{IsFileUnwrittenOrNoMemory}
use Rattle.command_line.specs.declared.fault.Fault.{Fault}
use Rattle.command_line.specs.declared.fault.Fault.TheVariants.{NoMemory as OutOfMemory}
use Rattle.log_grammar.specs.Lines.{log_bytes, header_one}
use Rattle.log_grammar.specs.Versions.{IsClean, IsLogFront}
use Rattle.sasl_log.specs.Sink.{SinkFacts}
use Rattle.sasl_desk.specs.Runs.{run_lines}
use Rattle.sasl_desk.specs.Serves.{Service, IsTurnFault}
use Rattle.sasl_desk.specs.declared.desk.Desk.{Desk}
use Rattle.sasl_desk.specs.declared.fault.ServeFault.{ServeFault}
use Rattle.sasl_desk.specs.declared.fault.ServeFault.TheVariants.{Halted, Unwritable, NoMemory, WriteFault, LogFault}
use Rattle.sasl_desk.proofs.lemmas.runs.Logs.{log_is_a_front}
use Rattle.sasl_desk.proofs.lemmas.runs.Stores.{log_is_saved}
use Rattle.commands.specs.DeskLog.{HasSavedLog}
use Rattle.commands.specs.inner.DeskLogSteps.{IsDeskLog, IsLogAfterFaultWith}
use Rattle.commands.specs.LoginFaults.{StopsTalking}
use Rattle.commands.specs.inner.TurnFaults.{IsFaultOfServing, IsFaultInTurn}
use Rattle.commands.specs.Login.{EndsTalk, PrintsTalk}
use Rattle.commands.specs.PrintedLog.{StopsAfter}
use Rattle.commands.specs.Talked.{Talked}
use Rattle.commands.specs.declared.login.client_end.User.{User}
use Rattle.commands.proofs.lemmas.HaltedLogs.{failed_store_ends_desk_log}

-- the log of a desk that began with this book, and what of it is printed
module _ {S : Type 0} {facts : S → StoreFacts} {IsStored : List ℕ → Type 0} {IsNow : ℕ → Type 0} {book : BookFields}
    {server_nonce : List ℕ} {given before after : Option (List ℕ)} {old : Desk S} {log : SinkFacts} (was : given ≡ before)
    (begun : IsDeskLog facts IsStored IsNow book given server_nonce old log) where
  -- after a fault a login that has begun has printed its saved log, which is a front, or the output can't be written
  pub login_stops_after : {Unbegun : Type 0} {new : Desk S} {log' : SinkFacts} {fault : Fault} → after ≡ log'.given
      → IsLogAfterFaultWith facts IsStored IsNow server_nonce old log new log' fault
      → StopsAfter fault Unbegun before after
      (HasSavedLog IsStored IsNow IsLogFront book server_nonce (facts new.keeper.store) before after)
  login_stops_after is (inl ((output, failed), stands)) = inl output
  login_stops_after {log' = log'} is (inr stays) =
      let desk = stays book given begun in
      let bytes = log_bytes (run_lines desk.calls) in
      inr (inr (
        bytes,
        log_is_a_front desk.stands,
        record { calls = desk.calls; place = desk.stands.place; is_run = desk.stands.is_run; requests = desk.requests; is_log = refl },
        subst (λ (o : Option (List ℕ)). Appends before o bytes) (sym is)
            (subst (λ (o : Option (List ℕ)). Appends o log'.given bytes) was desk.logged),
        log_is_saved desk.stands,
        failed_store_ends_desk_log desk.stands,
      ))

  -- a clean log of a desk is printed as the saved log
  pub clean_log_is_printed : {logged : Option (List ℕ)} {store : StoreFacts} → after ≡ logged
      → ((start : BookFields) (earlier : Option (List ℕ)) → IsDeskLog facts IsStored IsNow start earlier server_nonce old log
      → HasSavedLog IsStored IsNow IsClean start server_nonce store earlier logged)
      → HasSavedLog IsStored IsNow IsClean book server_nonce store before after
  clean_log_is_printed {logged = logged} {store = store} is clean =
      subst (λ (o : Option (List ℕ)). HasSavedLog IsStored IsNow IsClean book server_nonce store before o) (sym is)
      (subst (λ (o : Option (List ℕ)). HasSavedLog IsStored IsNow IsClean book server_nonce store o logged) was (clean book given begun))

-- a talk that has ended is printed, after the first line of the log
pub ended_talk_is_printed : (user : User) (nonce password : List ℕ) (input : Option (List ℕ)) (first last : Talked)
    (before given after : Option (List ℕ)) (passed : Bool) → EndsTalk user nonce password input first passed last → given ≡ before
    → Appends given first.logged (log_bytes (header_one ∷ [])) → after ≡ last.logged
    → PrintsTalk user nonce password input before passed after
ended_talk_is_printed user nonce password input first last before given after passed talk was begins is = record {
  first = first;
  last = last;
  begins = subst (λ (known : Option (List ℕ)). Appends known first.logged (log_bytes (header_one ∷ []))) was begins;
  talk = talk;
  printed = sym is;
}

-- the fault that memory ran out is a fault of a file that can't be written, whatever its path
no_memory_is_unwritten : (path : List ℕ) (fault : Fault) → fault ≡ OutOfMemory → IsFileUnwrittenOrNoMemory path fault
no_memory_is_unwritten path fault is = subst (λ (f : Fault). IsFileUnwrittenOrNoMemory path f) (sym is) refl

-- a turn that is not served
module _ {S : Type 0} (facts : S → StoreFacts) (IsStored : List ℕ → Type 0) (moment : ℕ) (old new : Service S) where
  -- why a turn is not served is a fault of the turn
  pub serving_fault_is_in_turn : (path : List ℕ) (fault : ServeFault) (result : Fault) → IsTurnFault facts IsStored moment old new fault
      → IsFaultOfServing path fault result → IsFaultInTurn path new.log result
  serving_fault_is_in_turn path Halted result served is = inr (inl is)
  serving_fault_is_in_turn path Unwritable result served never = absurd never
  serving_fault_is_in_turn path NoMemory result served is = inr (inl (no_memory_is_unwritten path result is))
  serving_fault_is_in_turn path WriteFault result served is = inr (inl (no_memory_is_unwritten path result is))
  serving_fault_is_in_turn path LogFault result (read, reads, asked, undone) is = inr (inr (is, undone.log_fails))

  -- a turn never goes unserved because what is due can't be written
  pub no_turn_is_unwritable : (fault : ServeFault) → IsTurnFault facts IsStored moment old new fault → fault ≢ Unwritable
  no_turn_is_unwritable Unwritable (read, reads, asked, never) same = never
  no_turn_is_unwritable fault served same = cc same

-- a fault of a turn ends the talk
pub turn_fault_stops_talking : (path : List ℕ) (log : SinkFacts) (fault : Fault) → IsFaultInTurn path log fault → StopsTalking path fault
turn_fault_stops_talking path log fault (inl socket) = inr (inl socket)
turn_fault_stops_talking path log fault (inr (inl unwritten)) = inr (inr (inl unwritten))
turn_fault_stops_talking path log fault (inr (inr (output, failed))) = inr (inr (inr output))
