-- A desk's log is a front, and it is clean between sessions, when the store has failed, and after `S HALT`.
use Rattle.std.proofs.Common.{◌≡◌, inl, inr, ◌⊎◌, true, ℕ, List, [], ◌∷◌, ◌++◌, map, refl, sym, subst, append-nil}
use Rattle.account_book.specs.{BookFields}
use Rattle.account_book.specs.Store.{StoreFacts}
use Rattle.log_grammar.specs.Books.{accounts_in}
use Rattle.log_grammar.specs.Lines.{LogLine, said, halt, log_line_text, IsLogLine, log_bytes}
use Rattle.log_grammar.specs.Places.{Place, MayEnd}
use Rattle.log_grammar.specs.Demands.{demands}
use Rattle.log_grammar.specs.Begins.{Begins, AreLines}
use Rattle.log_grammar.specs.Versions.{IsLogFront, IsClean}
use Rattle.log_grammar.proofs.lemmas.state_machine.LogSteps.{log_has_last_transition}
use Rattle.log_grammar.proofs.lemmas.many_sessions.HaltAndBusy.{halt_leads_to_halted}
use Rattle.log_grammar.proofs.lemmas.kinds.ShownByLines.{log_lines_are_front, log_lines_are_clean}
use Rattle.log_grammar.proofs.lemmas.lines.LackLf.{lines_lack_lf}
use Rattle.log_grammar.proofs.lemmas.lines.ReadAndWritten.{writable_lines_are_read, writable_lines_lack_lf}
use Rattle.sasl_desk.specs.Sessions.{CanBeWritten}
use Rattle.sasl_desk.specs.Runs.{Call, run_lines}
use Rattle.sasl_desk.specs.Desks.{IsStateAt, IsDeskAfter, state_phase, session_phase}
use Rattle.sasl_desk.specs.declared.desk.Desk.{Desk}
use Rattle.sasl_desk.specs.declared.desk.state.State.{State}
use Rattle.sasl_desk.specs.declared.desk.state.State.TheVariants.{Closed, Open, Halted}
use Rattle.sasl_desk.specs.declared.session.phase.Phase.TheVariants as phase
use Rattle.sasl_desk.specs.declared.session.Session.{Session}
use Rattle.sasl_desk.specs.declared.session.Session.TheVariants.{WaitAuth, WaitFirst, WaitFinal, WaitCode}
use Rattle.sasl_desk.proofs.lemmas.runs.HeldBooks.{failed_store_means_halted}

-- the bytes of lines that can be written are these lines
bytes_are_lines : (lines : List LogLine) → CanBeWritten lines → AreLines (log_bytes lines) lines []
bytes_are_lines lines written = (
  map log_line_text lines,
  record {
    bytes_are = sym (append-nil (log_bytes lines));
    lines = writable_lines_lack_lf IsLogLine log_line_text lines_lack_lf lines written;
    after = refl;
  },
  writable_lines_are_read IsLogLine log_line_text lines written,
)

-- the phase of an open session is not Closed
open_session_is_not_closed : (session : Session) → session_phase session ≡ phase.Closed → ⊥
open_session_is_not_closed WaitAuth is = cc is
open_session_is_not_closed (WaitFirst mechanism) is = cc is
open_session_is_not_closed (WaitFinal waiting) is = cc is
open_session_is_not_closed (WaitCode name) is = cc is

-- at a desk that is Closed a log may end
closed_desk_may_end : (start : BookFields) (server_nonce : List ℕ) (place : Place) (state : State)
    → IsStateAt (accounts_in start) server_nonce place state
    → state_phase state ≡ phase.Closed
    → MayEnd place
closed_desk_may_end start server_nonce place Closed at is = rw at tt
closed_desk_may_end start server_nonce place (Open session own) at is = absurd (open_session_is_not_closed session is)
closed_desk_may_end start server_nonce place Halted at is = absurd (cc is)

-- a desk that has answered these calls
module _ {S : Type 0} {facts : S → StoreFacts} {IsStored : List ℕ → Type 0} {start : BookFields} {calls : List Call} {desk : Desk S}
    (s : IsDeskAfter facts IsStored start calls desk) where
  -- the law: the log of a desk is a front: a clean log may begin with it
  pub log_is_a_front : IsLogFront (accounts_in start) (log_bytes (run_lines calls))
  log_is_a_front =
      log_lines_are_front (accounts_in start) (log_bytes (run_lines calls)) (run_lines calls) s.place s.told
      (bytes_are_lines (run_lines calls) s.writable) s.begins

  -- the log of a desk is clean if a log may end at its place
  ended_desk_log_is_clean : MayEnd s.place → IsClean (accounts_in start) (log_bytes (run_lines calls))
  ended_desk_log_is_clean =
      log_lines_are_clean (accounts_in start) (log_bytes (run_lines calls)) (run_lines calls) s.place s.told
      (bytes_are_lines (run_lines calls) s.writable) s.begins

  -- the law: the log of a desk is clean when no session is open, or when the store has failed
  pub log_is_clean_closed : (state_phase desk.state ≡ phase.Closed) ⊎ ((facts desk.keeper.store).failed ≡ true)
      → IsClean (accounts_in start) (log_bytes (run_lines calls))
  log_is_clean_closed (inl closed) = ended_desk_log_is_clean (closed_desk_may_end start _ s.place desk.state s.is_state closed)
  log_is_clean_closed (inr failed) =
      ended_desk_log_is_clean (subst MayEnd (sym (failed_store_means_halted IsStored (accounts_in start) calls desk.keeper.book
      (facts desk.keeper.store) s.place s.is_stored failed)) tt)

  -- the law: the log of a desk is clean when its last line is `S HALT`
  pub log_is_clean_halted : (lines : List LogLine) → run_lines calls ≡ lines ++ said halt ∷ []
      → IsClean (accounts_in start) (log_bytes (run_lines calls))
  log_is_clean_halted lines last =
      let before = log_has_last_transition (demands (accounts_in start)) lines (said halt) s.place s.told
      (subst (λ (l : List LogLine). Begins (demands (accounts_in start)) l s.place s.told) last s.begins) in
      ended_desk_log_is_clean (subst MayEnd (sym (halt_leads_to_halted (demands (accounts_in start)) before.place s.place before.goes)) tt)
