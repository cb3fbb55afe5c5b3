-- Each front of version 2 is completed to a clean log, whatever its last line is.
use Rattle.std.proofs.Common.{◌≡◌, inl, inr, ℕ, ◌+◌, false, List, [], ◌∷◌, ◌++◌, reverse, refl, sym, ◌∙◌, ap, subst, arith, append-nil}
use Rattle.std.specs.Prelude.{codes, map}
use Rattle.std.specs.List.{AllZip}
use Rattle.scram_text.specs.SplitLines.{ended_by_lf, IsSplit}
use Rattle.scram_text.proofs.lemmas.SplitLines.{joined_lines_are_split}
use Rattle.scram_text.proofs.lemmas.ListEnds.{nonempty_has_last}
use Rattle.account_book.specs.AccountAttempt.{AccountAttempt}
use Rattle.log_grammar.specs.Lines.{LogLine, header_two, said, ended, busy, log_line_text}
use Rattle.log_grammar.specs.Places.{Place, between, ending, is_closed}
use Rattle.log_grammar.specs.Demands.{Accounts, demands, HaveDueReplies}
use Rattle.log_grammar.specs.laws.FitAccounts.{AllCanBeChallenged}
use Rattle.log_grammar.specs.state_machine.Steps.{IsTransition, told_at}
use Rattle.log_grammar.specs.Numbered.{Numbered, numbered, visit_place, visit_lines, given_in, MayFollow, IsNumberedLogUpTo}
use Rattle.log_grammar.specs.NumberedLines.{IsSessionNumber, IsNumberedLine, numbered_text}
use Rattle.log_grammar.specs.state_machine.NumberedSteps.{put}
use Rattle.log_grammar.specs.LogKinds.{IsCleanOf}
use Rattle.log_grammar.specs.VersionTwo.{version_two, MayBeginVersionTwo}
use Rattle.log_grammar.specs.laws.KindLaws.{FrontsBeginCleanOf, BeginsCleanOf}
use Rattle.log_grammar.specs.laws.Completions.{CompleteNumberedLog}
use Rattle.log_grammar.proofs.lemmas.lines.Written.{end_is_writable}
use Rattle.log_grammar.proofs.lemmas.completions.OpenSessions.{IsNumberedCompletedBy, IsNumberedCompletable, ended_numbered_log_is_completable}
use Rattle.log_grammar.proofs.lemmas.completions.OpenSessions.{numbered_line_and_others_complete_log, Free, log_is_free_after, OpenInRange}
use Rattle.log_grammar.proofs.lemmas.completions.OpenSessions.{closing_all_completes_log}
use Rattle.log_grammar.proofs.lemmas.many_sessions.WithoutLast.{numbered_log_has_last_transition}
use Rattle.log_grammar.proofs.lemmas.many_sessions.HaltAndBusy.{visit_halt_leads_to_halted, visit_busy_leads_to_ending}
use Rattle.log_grammar.proofs.lemmas.many_sessions.HaltAndBusy.{line_is_halt_or_busy_or_followed}
use Rattle.log_grammar.proofs.lemmas.many_sessions.Ends.{ungiven_number_is_between}
use Rattle.log_grammar.proofs.lemmas.many_sessions.LogSteps.{given_visit_has_first_line, numbered_log_goes_on, empty_log_is_spelled}
use Rattle.log_grammar.proofs.lemmas.many_sessions.Standings.{line_follows_last}
use Rattle.log_grammar.proofs.lemmas.many_sessions.OpenCounts.{number_is_given_or_not}
use Rattle.log_grammar.proofs.lemmas.many_sessions.LinesOfNumber.{one_and_others_cover_each, put_sets_own, put_keeps_others}
use Rattle.log_grammar.proofs.lemmas.many_sessions.LinesOfNumber.{first_line_of_number_stands}
use Rattle.log_grammar.proofs.lemmas.ListEnds.{empty_has_no_element, related_lists-append}

-- each of the lines that were read has its text
read_line_has_text : (texts : List (List ℕ)) (before : List (Numbered LogLine)) (x : Numbered LogLine) (rest : List (Numbered LogLine))
    → AllZip IsNumberedLine texts (before ++ x ∷ rest) → (text : List ℕ) × IsNumberedLine text x
read_line_has_text [] [] x rest are = absurd are
read_line_has_text [] (y ∷ before) x rest are = absurd are
read_line_has_text (t ∷ texts) [] x rest are = (t, are.0)
read_line_has_text (t ∷ texts) (y ∷ before) x rest are = read_line_has_text texts before x rest are.1

-- the texts of numbered lines that were read are those of the lines
numbered_texts_are_spelled : (texts : List (List ℕ)) (log : List (Numbered LogLine)) → AllZip IsNumberedLine texts log
    → texts ≡ map numbered_text log
numbered_texts_are_spelled [] [] are = refl
numbered_texts_are_spelled [] (x ∷ log) are = absurd are
numbered_texts_are_spelled (t ∷ texts) [] are = absurd are
numbered_texts_are_spelled (t ∷ texts) (x ∷ log) are =
    ap (λ (l : List (List ℕ)). t ∷ l) (numbered_texts_are_spelled texts log are.1)
    ∙ ap (λ (text : List ℕ). text ∷ map numbered_text log) are.0.spelled

-- the open numbers in lines that were read are in their range
open_numbers_are_in_range : (limit : ℕ) (accounts : Accounts) (texts : List (List ℕ)) (log : List (Numbered LogLine)) (places : ℕ → Place)
    (told : List AccountAttempt)
    → AllZip IsNumberedLine texts log → IsNumberedLogUpTo limit (demands accounts) log places told → OpenInRange places
open_numbers_are_in_range limit accounts texts log places told are s n is = elim (number_is_given_or_not (s.visit n)) [
  | inl none ↦ let wrong = sym (ap is_closed (s.after n ∙ ap visit_place none)) ∙ is in absurd (cc wrong)
  | inr given ↦
      let first = given_visit_has_first_line given.0 in
      let found = first_line_of_number_stands n log first.0 first.1 (s.sessions.lines n ∙ ap visit_lines given.1 ∙ first.2) in
      let text = read_line_has_text texts found.0 (numbered n first.0) found.1
      (subst (λ (l : List (Numbered LogLine)). AllZip IsNumberedLine texts l) found.2 are) in
      text.1.number
]

-- bytes with no whole line begin a clean log of version 2
empty_front_begins_clean : (limit : ℕ) (accounts : Accounts) (bytes : List ℕ) → IsSplit bytes [] []
    → BeginsCleanOf (version_two limit accounts) bytes
empty_front_begins_clean limit accounts bytes cut =
    let first = codes "SCRAMLOG 2" ∷ [] in (
      ended_by_lf first,
      (
        first,
        joined_lines_are_split bytes [] first cut (refl, tt),
        (refl, [], λ n. between, [], tt, empty_log_is_spelled limit (demands accounts), inl (λ n. refl)),
      ),
    )

-- a log of version 2 can be completed by lines as `CompleteNumberedLog` says
abbrev IsCompletable : (limit : ℕ) → Accounts → List (Numbered LogLine) → Type 0
IsCompletable limit accounts log =
    (more : List (Numbered LogLine)) × CompleteNumberedLog log more × IsNumberedCompletedBy limit accounts log more

-- lines that end the open sessions complete a log
completed_by_ends : (limit : ℕ) (accounts : Accounts) (log : List (Numbered LogLine)) → IsNumberedCompletable limit accounts log
    → IsCompletable limit accounts log
completed_by_ends limit accounts log (more, end, c) = (more, inl end, c)

module _ (limit : ℕ) (accounts : Accounts) (fit : AllCanBeChallenged accounts) where
  -- a log after whose last line any line may follow can be completed by closing the open numbers
  free_log_is_completable : (log : List (Numbered LogLine)) (places : ℕ → Place) (told : List AccountAttempt)
      → IsNumberedLogUpTo limit (demands accounts) log places told → Free log → OpenInRange places
      → IsNumberedCompletable limit accounts log
  free_log_is_completable log places told s free ranged =
      closing_all_completes_log limit accounts fit (given_in log + 1) log places told s free ranged
      (λ n most. ungiven_number_is_between limit (demands accounts) log places told s n (omega (arith, most)))

  -- a log whose last line is BUSY can be completed, beginning with the `E` of that number
  busy_log_is_completable : (front : List (Numbered LogLine)) (last : Numbered LogLine) (places : ℕ → Place) (told : List AccountAttempt)
      → IsNumberedLogUpTo limit (demands accounts) (front ++ last ∷ []) places told → OpenInRange places → last.value ≡ said busy
      → places last.number ≡ ending → IsCompletable limit accounts (front ++ last ∷ [])
  busy_log_is_completable front last places told s ranged is at =
      let log = front ++ last ∷ [] in
      let n = last.number in
      let s' = numbered_log_goes_on limit (demands accounts) log places told n ended between s (record {
        room = tt;
        next = line_follows_last front last n ended (subst (λ (l : LogLine). MayFollow n l n ended) (sym is) (refl, refl));
        goes = inl (subst (λ (p : Place). IsTransition (demands accounts) p ended between) (sym at) refl);
        due = subst (λ (p : Place). HaveDueReplies (demands accounts) (reverse told) (told_at p ended)) (sym at) tt;
      }) in
      let ranged_on : OpenInRange (put n between places) =
      one_and_others_cover_each (λ (m : ℕ). is_closed (put n between places m) ≡ false → IsSessionNumber m) n
      (λ open_is. let wrong = sym (ap is_closed (put_sets_own n between places)) ∙ open_is in cc wrong)
      (λ m other open_is. ranged m (sym (ap is_closed (put_keeps_others n between places m other)) ∙ open_is)) in
      let (others, end, c) = free_log_is_completable (log ++ numbered n ended ∷ []) (put n between places)
      (told ++ told_at (places n) ended) s'
      (log_is_free_after log n ended (λ m next. tt)) ranged_on in (
        numbered n ended ∷ others,
        inr (front, n, others, ap (λ (l : LogLine). front ++ numbered n l ∷ []) is, refl, end),
        numbered_line_and_others_complete_log limit accounts log n ended others (ranged n (ap is_closed at)) tt end_is_writable c,
      )

  -- a log with a last line can be completed, whatever that line is
  nonempty_log_is_completable : (front : List (Numbered LogLine)) (last : Numbered LogLine) (places : ℕ → Place)
      (told : List AccountAttempt)
      → IsNumberedLogUpTo limit (demands accounts) (front ++ last ∷ []) places told → OpenInRange places
      → IsCompletable limit accounts (front ++ last ∷ [])
  nonempty_log_is_completable front last places told s ranged =
      let n = last.number in
      let b = numbered_log_has_last_transition limit (demands accounts) front n last.value places told s in
      elim (line_is_halt_or_busy_or_followed last.value) [
        | inl is ↦
            completed_by_ends limit accounts (front ++ last ∷ [])
            (ended_numbered_log_is_completable limit accounts (front ++ last ∷ []) places told s
            (inr (n, visit_halt_leads_to_halted (demands accounts) (b.before n) last.value (places n) is b.goes.goes)))
        | inr (inl is) ↦
            busy_log_is_completable front last places told s ranged is
            (visit_busy_leads_to_ending (demands accounts) (b.before n) last.value (places n) is b.goes.goes)
        | inr (inr follow) ↦
            completed_by_ends limit accounts (front ++ last ∷ [])
            (free_log_is_completable (front ++ last ∷ []) places told s
            (log_is_free_after front n last.value (follow n)) ranged)
      ]

  -- a log of version 2 can be completed if each open number is in its range
  numbered_log_is_completable : (log : List (Numbered LogLine)) (places : ℕ → Place) (told : List AccountAttempt)
      → IsNumberedLogUpTo limit (demands accounts) log places told → OpenInRange places → IsCompletable limit accounts log
  numbered_log_is_completable [] places told s ranged =
      completed_by_ends limit accounts []
      (free_log_is_completable [] places told s (λ before x e. absurd (empty_has_no_element before x [] e)) ranged)
  numbered_log_is_completable (x ∷ log) places told s ranged =
      let last = nonempty_has_last x log in
      subst (IsCompletable limit accounts) (sym last.2)
      (nonempty_log_is_completable last.0 last.1 places told
      (subst (λ (l : List (Numbered LogLine)). IsNumberedLogUpTo limit (demands accounts) l places told) last.2 s) ranged)

  -- each front of version 2 that has a line is completed by such lines
  pub version_two_fronts_are_completed : (bytes first : List ℕ) (texts : List (List ℕ)) → IsSplit bytes (first ∷ texts) []
      → MayBeginVersionTwo limit accounts (first ∷ texts)
      → (log : List (Numbered LogLine)) × (more : List (Numbered LogLine)) × CompleteNumberedLog log more
      × (bytes ≡ ended_by_lf (log_line_text header_two ∷ map numbered_text log))
      × IsCleanOf (version_two limit accounts) (bytes ++ ended_by_lf (map numbered_text more))
  version_two_fronts_are_completed bytes first texts cut (is, lines, places, told, are, s) =
      let (more, complete, c) = numbered_log_is_completable lines places told s
      (open_numbers_are_in_range limit accounts texts lines places told are s) in
      let spelled = ap (λ (l : List (List ℕ)). first ∷ l) (numbered_texts_are_spelled texts lines are)
      ∙ ap (λ (text : List ℕ). text ∷ map numbered_text lines) is in (
        lines,
        more,
        complete,
        cut.bytes_are ∙ append-nil (ended_by_lf (first ∷ texts)) ∙ ap ended_by_lf spelled,
        (
          first ∷ texts ++ map numbered_text more,
          joined_lines_are_split bytes (first ∷ texts) (map numbered_text more) cut c.lack,
          (
            is,
            lines ++ more,
            c.places,
            c.told,
            related_lists-append IsNumberedLine texts (map numbered_text more) lines more are c.are,
            c.spells,
            c.ends,
          ),
        ),
      )

  -- each front of version 2 begins a clean log
  pub version_two_fronts_begin_clean : FrontsBeginCleanOf (version_two limit accounts)
  version_two_fronts_begin_clean bytes ([], cut, stands) = empty_front_begins_clean limit accounts bytes cut
  version_two_fronts_begin_clean bytes (first ∷ texts, cut, stands) =
      let completed = version_two_fronts_are_completed bytes first texts cut stands in
      (ended_by_lf (map numbered_text completed.1), completed.4)
