-- A clean log of version 2 consists of its sessions.
use Rattle.std.proofs.Common.{◌≡◌, ◌⊎◌, inl, inr, ℕ, Bool, true, false, List, [], ◌∷◌, map, refl, sym, ◌∙◌, ap, subst, append-nil}
use Rattle.std.specs.List.{AllByRecursion}
use Rattle.std.specs.declared.option.Option.{Option}
use Rattle.std.specs.declared.option.Option.TheVariants.{None, Some}
use Rattle.std.proofs.lemmas.Bool.Decides.{eqb_tells}
use Rattle.std.proofs.lemmas.List.{same_from_push}
use Rattle.otp_core.specs.Ranges.{IsMoment}
use Rattle.scram_text.specs.SplitLines.{ended_by_lf, IsSplit}
use Rattle.account_book.specs.AccountAttempt.{AccountAttempt}
use Rattle.log_grammar.specs.Lines.{LogLine, header_two, said, ended, busy, halt, log_line_text}
use Rattle.log_grammar.specs.laws.LastLines.{EndsWith}
use Rattle.log_grammar.specs.Places.{between, halted}
use Rattle.log_grammar.specs.Demands.{Accounts, demands}
use Rattle.log_grammar.specs.Sessions.{closing}
use Rattle.log_grammar.specs.Histories.{IsHistory}
use Rattle.log_grammar.specs.Numbered.{Numbered, of_number, Visit, let_in, turned_away, visit_lines, visit_told, visit_place, IsNumberedLogUpTo}
use Rattle.log_grammar.specs.Numbered.{MayEndNumbered}
use Rattle.log_grammar.specs.NumberedLines.{numbered_text, IsNumberedLine, IsNumberedLineWritable}
use Rattle.log_grammar.specs.LogKinds.{IsCleanOf}
use Rattle.log_grammar.specs.VersionTwo.{AreCleanVersionTwo, version_two}
use Rattle.log_grammar.specs.laws.NumberedBySessions.{IsClosedVisit, IsHaltedVisit, IsNumberedLogOf, CleanNumberedLogsAreThoseOfSessions}
use Rattle.log_grammar.proofs.lemmas.demands.EachAccount.{each_account_has_its_history}
use Rattle.log_grammar.proofs.lemmas.session_laws.OfSessions.{closed_session_is_between, session_between_is_closed, halted_session_is_at_halt}
use Rattle.log_grammar.proofs.lemmas.session_laws.OfSessions.{session_at_halt_is_halted}
use Rattle.log_grammar.proofs.lemmas.session_laws.MomentRanges.{Ranged, Timed, session_tells_in_time, closing_tells_in_time}
use Rattle.log_grammar.proofs.lemmas.lines.NumberedReadBack.{numbered_line_lacks_lf}
use Rattle.log_grammar.proofs.lemmas.lines.ReadAndWritten.{texts_spell_lines, read_lines_are_writable, writable_lines_lack_lf}
use Rattle.log_grammar.proofs.lemmas.lines.ReadAndWritten.{writable_lines_are_read}

-- the lines of a number are in their ranges
lines_of_number_are_in_range : (n : ℕ) (log : List (Numbered LogLine)) → AllByRecursion IsNumberedLineWritable log
    → Ranged (of_number n log)
lines_of_number_are_in_range n [] all = tt
lines_of_number_are_in_range n (x ∷ log) all = elim (eqb_tells n x.number) [
  | inl same ↦ rw same.0 (all.0.line.ranges, lines_of_number_are_in_range n log all.1)
  | inr other ↦ rw other.0 (lines_of_number_are_in_range n log all.1)
]

-- if the lines of a number's visit are in their ranges, so are the moments of its replies
visit_tells_in_time : (o : Option Visit) → Ranged (visit_lines o) → Timed (visit_told o)
visit_tells_in_time None h = tt
visit_tells_in_time (Some (let_in s)) h = session_tells_in_time s h
visit_tells_in_time (Some (turned_away closed)) h = closing_tells_in_time closed h.1

-- if the moments of the replies under a number are in range, they still are without the first of all the replies
rest_is_told_in_time : (n : ℕ) (t : Numbered AccountAttempt) (numbered_told : List (Numbered AccountAttempt))
    → Timed (of_number n (t ∷ numbered_told)) → Timed (of_number n numbered_told)
rest_is_told_in_time n t numbered_told h = elim (eqb_tells n t.number) [
  | inl same ↦ (rw same.0 at h).1
  | inr other ↦ rw other.0 at h
]

-- if the moments of the replies under its number are in range, so is that of the first reply
first_is_told_in_time : (t : Numbered AccountAttempt) (numbered_told : List (Numbered AccountAttempt))
    → Timed (of_number t.number (t ∷ numbered_told)) → IsMoment t.value.moment
first_is_told_in_time t numbered_told h = elim (eqb_tells t.number t.number) [
  | inl same ↦ (rw same.0 at h).0
  | inr other ↦ absurd (other.1 refl)
]

-- if the moments of the replies under each number are in range, so are those of all replies
all_are_told_in_time : (numbered_told : List (Numbered AccountAttempt)) → ((n : ℕ) → Timed (of_number n numbered_told))
    → Timed (map (λ t. t.value) numbered_told)
all_are_told_in_time [] each = tt
all_are_told_in_time (t ∷ numbered_told) each = (
  first_is_told_in_time t numbered_told (each t.number),
  all_are_told_in_time numbered_told
      (λ n. rest_is_told_in_time n t numbered_told (each n)),
)

-- the moments of all replies are in range if the lines can be written and each number has the lines and replies of its visit
numbered_log_tells_in_time : (log : List (Numbered LogLine)) (visit : ℕ → Option Visit) (numbered_told : List (Numbered AccountAttempt))
    → AllByRecursion IsNumberedLineWritable log → ((n : ℕ) → of_number n log ≡ visit_lines (visit n))
    → ((n : ℕ) → of_number n numbered_told ≡ visit_told (visit n)) → Timed (map (λ t. t.value) numbered_told)
numbered_log_tells_in_time log visit numbered_told written lines told_of_each =
    all_are_told_in_time numbered_told (λ n. subst Timed (sym (told_of_each n))
    (visit_tells_in_time (visit n) (subst Ranged (lines n) (lines_of_number_are_in_range n log written))))

-- a number that was turned away, before its `E`, does not end with `E`
pub busy_is_no_end : EndsWith (said busy ∷ []) (ended ∷ []) → ⊥
busy_is_no_end (before, same) = let wrong = (same_from_push [] before (said busy) ended same).1 in cc wrong

-- a number that was turned away does not end with a halt
turned_away_ends_with_no_halt : (closed : Bool) → EndsWith (said busy ∷ (closing closed).lines) (said halt ∷ []) → ⊥
turned_away_ends_with_no_halt true (before, same) =
    let wrong = (same_from_push (said busy ∷ []) before ended (said halt) same).1 in cc wrong
turned_away_ends_with_no_halt false (before, same) = let wrong = (same_from_push [] before (said busy) (said halt) same).1 in cc wrong

-- the number of a closed visit is between sessions
pub closed_visit_is_between : (o : Option Visit) → IsClosedVisit o → visit_place o ≡ between
closed_visit_is_between None is = refl
closed_visit_is_between (Some (let_in s)) is = closed_session_is_between s is
closed_visit_is_between (Some (turned_away true)) is = refl
closed_visit_is_between (Some (turned_away false)) is = absurd (busy_is_no_end is)

-- the visit of a number that is between sessions is closed
pub visit_between_is_closed : (o : Option Visit) → visit_place o ≡ between → IsClosedVisit o
visit_between_is_closed None is = tt
visit_between_is_closed (Some (let_in s)) is = session_between_is_closed s is
visit_between_is_closed (Some (turned_away true)) is = (said busy ∷ [], refl)
visit_between_is_closed (Some (turned_away false)) is = absurd (cc is)

-- the number of a visit that ends with `S HALT` is halted
pub halted_visit_is_at_halt : (o : Option Visit) → IsHaltedVisit o → visit_place o ≡ halted
halted_visit_is_at_halt None is = absurd is
halted_visit_is_at_halt (Some (let_in s)) is = halted_session_is_at_halt s is
halted_visit_is_at_halt (Some (turned_away closed)) is = absurd (turned_away_ends_with_no_halt closed is)

-- the visit of a number that is halted ends with `S HALT`
pub visit_at_halt_is_halted : (o : Option Visit) → visit_place o ≡ halted → IsHaltedVisit o
visit_at_halt_is_halted None is = absurd (cc is)
visit_at_halt_is_halted (Some (let_in s)) is = session_at_halt_is_halted s is
visit_at_halt_is_halted (Some (turned_away true)) is = absurd (cc is)
visit_at_halt_is_halted (Some (turned_away false)) is = absurd (cc is)

-- a clean log of version 2 consists of some sessions
clean_numbered_log_has_sessions : (limit : ℕ) (accounts : Accounts) (bytes : List ℕ) (texts : List (List ℕ)) → IsSplit bytes texts []
    → AreCleanVersionTwo limit accounts texts → (log : List (Numbered LogLine)) × IsNumberedLogOf limit accounts bytes log
clean_numbered_log_has_sessions limit accounts bytes [] cut ends = absurd ends
clean_numbered_log_has_sessions limit accounts bytes (first ∷ texts) cut (is, log, places, told, are, s, may) =
    let written = read_lines_are_writable IsNumberedLine numbered_text (λ t x is. is.spelled) texts log are in
    let moments = numbered_log_tells_in_time log s.visit s.numbered_told written s.sessions.lines s.sessions.told_of_each in
    let replies = subst (λ (t : List AccountAttempt). (account : List ℕ) → IsHistory (accounts.token account) account t) s.told_are
    ((each_account_has_its_history accounts told (subst Timed (sym s.told_are) moments)).0 s.replies) in
    let finished = elim may as (λ m. ((n : ℕ) → IsClosedVisit (s.visit n)) ⊎ ((n : ℕ) × IsHaltedVisit (s.visit n))) [
      | inl all ↦ inl (λ n. visit_between_is_closed (s.visit n) (sym (s.after n) ∙ all n))
      | inr halts ↦ inr (halts.0, visit_at_halt_is_halted (s.visit halts.0) (sym (s.after halts.0) ∙ halts.1))
    ] in
    let same = ap (λ (t : List ℕ). t ∷ texts) is ∙ ap (λ (ts : List (List ℕ)). log_line_text header_two ∷ ts)
    (texts_spell_lines IsNumberedLine numbered_text (λ t x is. is.spelled) texts log are) in (
      log,
      record {
        spelled = cut.bytes_are ∙ append-nil (ended_by_lf (first ∷ texts)) ∙ ap ended_by_lf same;
        written = written;
        visit = s.visit;
        numbered_told = s.numbered_told;
        sessions = s.sessions;
        finished = finished;
        histories = replies;
      },
    )

-- a log of version 2 that consists of some sessions is one whose numbers are at the places of these sessions
pub log_of_sessions_is_spelled : (limit : ℕ) (accounts : Accounts) (bytes : List ℕ) (log : List (Numbered LogLine))
    (l : IsNumberedLogOf limit accounts bytes log)
    → IsNumberedLogUpTo limit (demands accounts) log (λ n. visit_place (l.visit n)) (map (λ t. t.value) l.numbered_told)
log_of_sessions_is_spelled limit accounts bytes log l =
    let told = map (λ (t : Numbered AccountAttempt). t.value) l.numbered_told in
    let moments = numbered_log_tells_in_time log l.visit l.numbered_told l.written l.sessions.lines l.sessions.told_of_each in
    record {
      visit = l.visit;
      numbered_told = l.numbered_told;
      sessions = l.sessions;
      told_are = refl;
      replies = (each_account_has_its_history accounts told moments).1 l.histories;
      after = λ n. refl;
    }

-- a log of version 2 that consists of some sessions is clean
numbered_log_of_sessions_is_clean : (limit : ℕ) (accounts : Accounts) (bytes : List ℕ) (log : List (Numbered LogLine))
    → IsNumberedLogOf limit accounts bytes log → IsCleanOf (version_two limit accounts) bytes
numbered_log_of_sessions_is_clean limit accounts bytes log l =
    let texts = log_line_text header_two ∷ map numbered_text log in
    let cut : IsSplit bytes texts [] =
    record {
      bytes_are = l.spelled ∙ sym (append-nil (ended_by_lf texts));
      lines = (refl, writable_lines_lack_lf IsNumberedLine numbered_text numbered_line_lacks_lf log l.written);
      after = refl;
    } in
    let told = map (λ (t : Numbered AccountAttempt). t.value) l.numbered_told in
    let places = λ (n : ℕ). visit_place (l.visit n) in
    let spells = log_of_sessions_is_spelled limit accounts bytes log l in
    let may = elim l.finished as (λ o. MayEndNumbered places) [
      | inl all ↦ inl (λ n. closed_visit_is_between (l.visit n) (all n))
      | inr halts ↦ inr (halts.0, halted_visit_is_at_halt (l.visit halts.0) halts.1)
    ] in
    (texts, cut, (refl, log, places, told, writable_lines_are_read IsNumberedLine numbered_text log l.written, spells, may))

-- the law: a log of version 2 is clean if and only if it consists of some sessions that are all closed, or one of them halted, that meet
-- the demands, and in which the tokens have legal histories
pub clean_numbered_logs_are_those_of_sessions : CleanNumberedLogsAreThoseOfSessions
clean_numbered_logs_are_those_of_sessions limit accounts bytes = (
  λ clean. clean_numbered_log_has_sessions limit accounts bytes clean.0 clean.1 clean.2,
  λ l. numbered_log_of_sessions_is_clean limit
      accounts bytes l.0 l.1,
)
