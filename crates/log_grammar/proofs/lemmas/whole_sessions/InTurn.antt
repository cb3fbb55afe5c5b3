-- A log of version 1 is clean if and only if it is made of whole sessions.
use Rattle.std.proofs.Common.{◌≡◌, ◌↔◌, inl, inr, ℕ, List, [], ◌∷◌, ◌++◌, refl, sym, ◌∙◌, ap, subst, append-nil}
use Rattle.std.specs.Prelude.{flat_map}
use Rattle.std.specs.List.{AllByRecursion}
use Rattle.account_book.specs.AccountAttempt.{AccountAttempt}
use Rattle.log_grammar.specs.Lines.{LogLine, header_one, log_bytes, IsLogLineWritable}
use Rattle.log_grammar.specs.Places.{MayEnd}
use Rattle.log_grammar.specs.Demands.{Accounts, demands}
use Rattle.log_grammar.specs.Sessions.{RecordedSession, session_lines, session_place, session_told, SessionMeets}
use Rattle.log_grammar.specs.Histories.{IsHistory}
use Rattle.log_grammar.specs.laws.BySessions.{IsClosed, AreFinished, IsLogOf}
use Rattle.log_grammar.specs.LogKinds.{IsCleanOf}
use Rattle.log_grammar.specs.VersionOne.{version_one}
use Rattle.log_grammar.specs.CleanLogs.{AreSessions, no_session, last_session, session_and_more, IsCleanInTurn}
use Rattle.log_grammar.proofs.lemmas.session_laws.OfSessions.{closed_session_is_between, session_between_is_closed, halted_session_is_at_halt}
use Rattle.log_grammar.proofs.lemmas.session_laws.OfSessions.{session_at_halt_is_halted, ending_place_is_between_or_halted}
use Rattle.log_grammar.proofs.lemmas.session_laws.OfSessions.{clean_logs_are_those_of_sessions}
use Rattle.log_grammar.proofs.lemmas.whole_sessions.FinishedTrees.{finished_session_is_whole}
use Rattle.log_grammar.proofs.lemmas.whole_sessions.WholeTrees.{whole_session_has_tree}

-- finished trees that meet the demands have these lines, and these attempts in them
record HaveTrees (accounts : Accounts) (lines : List LogLine) (told : List AccountAttempt) : Type 0 where
  sessions : List RecordedSession
  are : lines ≡ flat_map session_lines sessions
  told_are : told ≡ flat_map session_told sessions
  finished : AreFinished sessions
  good : AllByRecursion (SessionMeets (demands accounts)) sessions

-- a closed session and finished ones after it are finished
closed_and_finished_are_finished : (s : RecordedSession) (more : List RecordedSession) → IsClosed s → AreFinished more
    → AreFinished (s ∷ more)
closed_and_finished_are_finished s [] closed finished = inl closed
closed_and_finished_are_finished s (t ∷ more) closed finished = (closed, finished)

-- a session at a place where a log may end is finished
ended_session_is_finished : (s : RecordedSession) → MayEnd (session_place s) → AreFinished (s ∷ [])
ended_session_is_finished s ends = elim (ending_place_is_between_or_halted (session_place s) ends) [
  | inl is ↦ inl (session_between_is_closed s is)
  | inr is ↦ inr (session_at_halt_is_halted s is)
]

-- a log may end after a finished session
finished_session_may_end : (s : RecordedSession) → AreFinished (s ∷ []) → MayEnd (session_place s)
finished_session_may_end s (inl closed) = subst MayEnd (sym (closed_session_is_between s closed)) tt
finished_session_may_end s (inr halts) = subst MayEnd (sym (halted_session_is_at_halt s halts)) tt

module _ (accounts : Accounts) where
  -- finished trees that meet the demands are whole sessions, one after another
  finished_trees_are_sessions : (sessions : List RecordedSession) → AreFinished sessions
      → AllByRecursion (SessionMeets (demands accounts)) sessions
      → AreSessions accounts (flat_map session_lines sessions) (flat_map session_told sessions)
  finished_trees_are_sessions [] finished good = no_session
  finished_trees_are_sessions (s ∷ []) finished good =
      subst (λ (l : List LogLine). AreSessions accounts l (session_told s ++ [])) (sym (append-nil (session_lines s)))
      (subst (λ (t : List AccountAttempt). AreSessions accounts (session_lines s) t) (sym (append-nil (session_told s)))
      (last_session (finished_session_is_whole accounts s good.0 (finished_session_may_end s finished))))
  finished_trees_are_sessions (s ∷ t ∷ more) finished good =
      session_and_more finished.0.0 (finished_session_is_whole accounts s good.0 (finished_session_may_end s (inl finished.0))) finished.0.1
      (finished_trees_are_sessions (t ∷ more) finished.1 good.1)

  -- whole sessions, one after another, have trees
  sessions_have_trees : (lines : List LogLine) (told : List AccountAttempt) → AreSessions accounts lines told
      → HaveTrees accounts lines told
  sessions_have_trees lines told no_session =
      record { sessions = []; are = refl; told_are = refl; finished = tt; good = tt }
  sessions_have_trees lines told (last_session s) =
      let t = whole_session_has_tree accounts _ _ s in
      record {
        sessions = t.tree ∷ [];
        are = sym (append-nil (session_lines t.tree) ∙ t.are);
        told_are = sym (append-nil (session_told t.tree) ∙ t.told_are);
        finished = ended_session_is_finished t.tree t.ends;
        good = (t.good, tt);
      }
  sessions_have_trees lines told (session_and_more {lines = own} {more = others} {told = mine} {later = later} before s closed more) =
      let t = whole_session_has_tree accounts own mine s in
      let rest = sessions_have_trees others later more in
      record {
        sessions = t.tree ∷ rest.sessions;
        are = sym (ap (λ (l : List LogLine). l ++ flat_map session_lines rest.sessions) t.are
            ∙ ap (λ (l : List LogLine). own ++ l) (sym rest.are));
        told_are = sym (ap (λ (l : List AccountAttempt). l ++ flat_map session_told rest.sessions) t.told_are
            ∙ ap (λ (l : List AccountAttempt). mine ++ l) (sym rest.told_are));
        finished = closed_and_finished_are_finished t.tree rest.sessions
            (before, t.are ∙ closed) rest.finished;
        good = (t.good, rest.good);
      }

  -- a clean log of version 1 is made of whole sessions
  clean_log_is_in_turn : (bytes : List ℕ) (sessions : List RecordedSession) → IsLogOf accounts bytes sessions → IsCleanInTurn accounts bytes
  clean_log_is_in_turn bytes sessions l = record {
    lines = flat_map session_lines sessions;
    spelled = l.spelled;
    written = l.lines;
    told = flat_map session_told sessions;
    sessions = finished_trees_are_sessions sessions l.finished l.good;
    histories = l.histories;
  }

  -- a log of version 1 that is made of whole sessions is clean
  log_in_turn_has_trees : (bytes : List ℕ) (c : IsCleanInTurn accounts bytes)
      → (sessions : List RecordedSession) × IsLogOf accounts bytes sessions
  log_in_turn_has_trees bytes c =
      let t = sessions_have_trees c.lines c.told c.sessions in (
        t.sessions,
        record {
          spelled = c.spelled ∙ ap (λ (l : List LogLine). log_bytes (header_one ∷ l)) t.are;
          lines = subst (AllByRecursion IsLogLineWritable) t.are c.written;
          finished = t.finished;
          good = t.good;
          histories = λ account. subst (λ (a : List AccountAttempt). IsHistory (accounts.token account) account a) t.told_are
              (c.histories account);
        },
      )

  -- a log of version 1 is clean if and only if it is made of whole sessions
  pub clean_iff_in_turn : (bytes : List ℕ) → IsCleanOf (version_one accounts) bytes ↔ IsCleanInTurn accounts bytes
  clean_iff_in_turn bytes =
      let law = clean_logs_are_those_of_sessions accounts bytes in (
        λ clean. let l = law.0 clean in clean_log_is_in_turn bytes l.0 l.1,
        λ c. law.1 (log_in_turn_has_trees bytes c),
      )
