-- A log of version 2 after whose last line any line may follow can be completed: its open sessions are closed one by one, or a halt ends
-- them all.
use Rattle.std.proofs.Common.{◌≡◌, inl, inr, ℕ, zero, suc, ◌≤◌, true, false, List, [], ◌∷◌, ◌++◌, reverse, refl, sym, ◌∙◌, ap, subst, arith}
use Rattle.std.proofs.Common.{append_assoc, append-nil}
use Rattle.std.specs.Prelude.{map}
use Rattle.std.specs.List.{AllByRecursion, AllZip}
use Rattle.std.proofs.lemmas.Bool.{cases_Bool}
use Rattle.std.proofs.lemmas.Bool.Decides.{eqb_tells}
use Rattle.std.proofs.lemmas.List.{same_from_push}
use Rattle.scram_text.specs.SplitLines.{LacksLf}
use Rattle.account_book.specs.AccountAttempt.{AccountAttempt}
use Rattle.log_grammar.specs.Lines.{LogLine, said, halt, IsLogLineWritable}
use Rattle.log_grammar.specs.Places.{Place, before_all, between, halted, is_closed}
use Rattle.log_grammar.specs.Demands.{Accounts, Demands, demands, HaveDueReplies}
use Rattle.log_grammar.specs.laws.FitAccounts.{AllCanBeChallenged}
use Rattle.log_grammar.specs.laws.Completions.{in_turn, EndSessions}
use Rattle.log_grammar.specs.state_machine.Steps.{IsTransition, told_at}
use Rattle.log_grammar.specs.Numbered.{Numbered, numbered, MayFollow, IsNumberedLogUpTo, MayEndNumbered}
use Rattle.log_grammar.specs.NumberedLines.{IsSessionNumber, IsNoFirstLine, numbered_text, IsNumberedLine}
use Rattle.log_grammar.specs.state_machine.NumberedSteps.{IsVisitTransition, put}
use Rattle.log_grammar.proofs.lemmas.completions.Closings.{Closes, MayEndSession, place_has_exit}
use Rattle.log_grammar.proofs.lemmas.lines.Written.{halt_is_writable}
use Rattle.log_grammar.proofs.lemmas.many_sessions.WithoutLast.{numbered_log_has_last_transition}
use Rattle.log_grammar.proofs.lemmas.lines.NumberedReadBack.{numbered_line_lacks_lf, numbered_line_is_writable}
use Rattle.log_grammar.proofs.lemmas.many_sessions.LogSteps.{numbered_log_goes_on, visit_line_between_takes_number}
use Rattle.log_grammar.proofs.lemmas.many_sessions.OneReading.{empty_log_tells_nothing, number_challenge_meets_demand}
use Rattle.log_grammar.proofs.lemmas.many_sessions.LinesOfNumber.{one_and_others_cover_each, put_sets_own, put_keeps_others}
use Rattle.log_grammar.proofs.lemmas.ListEnds.{holds_by_last}
use Rattle.log_grammar.proofs.lemmas.state_machine.StepKinds.{visit_transition_has_kind}

-- these lines complete a log of version 2: with them it may end
pub record IsNumberedCompletedBy (limit : ℕ) (accounts : Accounts) (log more : List (Numbered LogLine)) : Type 0 where
  -- the lines have their texts
  pub are : AllZip IsNumberedLine (map numbered_text more) more
  -- no text has an LF
  pub lack : AllByRecursion LacksLf (map numbered_text more)
  -- where each number stands after them
  pub places : ℕ → Place
  -- the replies recorded in all lines
  pub told : List AccountAttempt
  -- the log and these lines are a log of version 2, which may be cut short
  pub spells : IsNumberedLogUpTo limit (demands accounts) (log ++ more) places told
  -- it may end there
  pub ends : MayEndNumbered places

-- a log of version 2 can be completed by lines that end its open sessions
abbrev pub IsNumberedCompletable : (limit : ℕ) → Accounts → List (Numbered LogLine) → Type 0
IsNumberedCompletable limit accounts log =
    (more : List (Numbered LogLine)) × EndSessions more × IsNumberedCompletedBy limit accounts log more

-- no lines end the sessions, if none is open
nothing_ends_sessions : EndSessions []
nothing_ends_sessions = record { sessions = []; each = tt; last = []; may_halt = inl refl; are = refl }

-- a halt ends all sessions
halt_ends_sessions : (n : ℕ) → EndSessions (numbered n (said halt) ∷ [])
halt_ends_sessions n =
    record { sessions = []; each = tt; last = numbered n (said halt) ∷ []; may_halt = inr (n, refl); are = refl }

-- the lines that end one session, if there are any, and then those that end others, end them all
one_session_and_others_end : (n : ℕ) (lines : List LogLine) (others : List (Numbered LogLine)) → MayEndSession lines → EndSessions others
    → EndSessions (map (numbered n) lines ++ others)
one_session_and_others_end n lines others (inl none) end =
    subst (λ (l : List LogLine). EndSessions (map (numbered n) l ++ others)) (sym none) end
one_session_and_others_end n lines others (inr is) end = record {
  sessions = numbered n lines ∷ end.sessions;
  each = (is, end.each);
  last = end.last;
  may_halt = end.may_halt;
  are = ap (λ (l : List (Numbered LogLine)). map (numbered n) lines ++ l) end.are
      ∙ sym (append_assoc (map (numbered n) lines) (in_turn end.sessions) end.last);
}

-- any line may follow the last line
abbrev pub Free : List (Numbered LogLine) → Type 0
Free log = (before : List (Numbered LogLine)) (x : Numbered LogLine) → log ≡ before ++ x ∷ [] → (m : ℕ) (next : LogLine)
    → MayFollow x.number x.value m next

-- any line may follow these lines if any line may follow the last of them
pub log_is_free_after : (log : List (Numbered LogLine)) (n : ℕ) (line : LogLine) → ((m : ℕ) (next : LogLine) → MayFollow n line m next)
    → Free (log ++ numbered n line ∷ [])
log_is_free_after log n line follow before x e m next =
    subst (λ (z : Numbered LogLine). MayFollow z.number z.value m next) (same_from_push log before (numbered n line) x e).1
    (follow m next)

-- a number at a closed place other than the one before all lines is between sessions
closed_is_between : (p : Place) → is_closed p ≡ true → (p ≡ before_all → ⊥) → p ≡ between
closed_is_between before_all is never = absurd (never refl)
closed_is_between between is never = refl
closed_is_between p is never = absurd (cc is)

-- no line leads a number to the place before all lines, if it does not stand there already
no_line_leads_before_all : (d : Demands) (place : Place) (line : LogLine) (next : Place) → IsVisitTransition d place line next
    → (place ≡ before_all → ⊥) → next ≡ before_all → ⊥
no_line_leads_before_all d place line next goes never at = elim (visit_transition_has_kind d place line next goes) [
  | inl begins ↦ let wrong = sym (ap is_closed at) ∙ begins.3 in cc wrong
  | inr (inl ends) ↦ let wrong = sym at ∙ ends.3 in cc wrong
  | inr (inr keeps) ↦
      let between_is = closed_is_between place (keeps.2 ∙ ap is_closed at) never in
      let wrong = sym keeps.0 ∙ visit_line_between_takes_number d place line next between_is goes in cc wrong
]

-- no number of a log stands at the place before all lines
pub no_number_is_before_all : (limit : ℕ) (d : Demands) (log : List (Numbered LogLine)) (p : ℕ → Place) (told : List AccountAttempt)
    → IsNumberedLogUpTo limit d log p told → (n : ℕ) → p n ≡ before_all → ⊥
no_number_is_before_all limit d = holds_by_last
    (λ log. (p : ℕ → Place) (told : List AccountAttempt) → IsNumberedLogUpTo limit d log p told → (n : ℕ) → p n ≡ before_all → ⊥)
    (λ p told s n at. let wrong = sym ((empty_log_tells_nothing limit d p told s).0 n) ∙ at in cc wrong)
    (λ log x earlier p told s.
    let n = x.number in
    let b = numbered_log_has_last_transition limit d log n x.value p told s in
    let never = earlier b.before b.told b.spells in
    one_and_others_cover_each (λ (m : ℕ). p m ≡ before_all → ⊥) n
    (no_line_leads_before_all d (b.before n) x.value (p n) b.goes.goes (never n))
    (λ m other at. never m (sym (b.others m other) ∙ at)))

-- the open numbers are in their range
abbrev pub OpenInRange : (ℕ → Place) → Type 0
OpenInRange places = (n : ℕ) → is_closed (places n) ≡ false → IsSessionNumber n

module _ (limit : ℕ) (accounts : Accounts) where
  -- a log is complete if the places of its numbers let it end
  ended_numbered_log_is_complete : (log : List (Numbered LogLine)) (places : ℕ → Place) (told : List AccountAttempt)
      → IsNumberedLogUpTo limit (demands accounts) log places told → MayEndNumbered places → IsNumberedCompletedBy limit accounts log []
  ended_numbered_log_is_complete log places told s ends = record {
    are = tt;
    lack = tt;
    places = places;
    told = told;
    spells = subst (λ (l : List (Numbered LogLine)). IsNumberedLogUpTo limit (demands accounts) l places told) (sym (append-nil log)) s;
    ends = ends;
  }

  -- a log can be completed by nothing if the places of its numbers let it end
  pub ended_numbered_log_is_completable : (log : List (Numbered LogLine)) (places : ℕ → Place) (told : List AccountAttempt)
      → IsNumberedLogUpTo limit (demands accounts) log places told → MayEndNumbered places → IsNumberedCompletable limit accounts log
  ended_numbered_log_is_completable log places told s ends =
      ([], nothing_ends_sessions, ended_numbered_log_is_complete log places told s ends)

  -- a log is completed by one more line that can be written, and then those that complete the log with it
  pub numbered_line_and_others_complete_log : (log : List (Numbered LogLine)) (n : ℕ) (line : LogLine) (more : List (Numbered LogLine))
      → IsSessionNumber n → IsNoFirstLine line → IsLogLineWritable line
      → IsNumberedCompletedBy limit accounts (log ++ numbered n line ∷ []) more
      → IsNumberedCompletedBy limit accounts log (numbered n line ∷ more)
  numbered_line_and_others_complete_log log n line more number has written c =
      let x = numbered n line in
      let is = numbered_line_is_writable x number has written in
      record {
        are = (is, c.are);
        lack = (numbered_line_lacks_lf (numbered_text x) x is, c.lack);
        places = c.places;
        told = c.told;
        spells = subst (λ (l : List (Numbered LogLine)). IsNumberedLogUpTo limit (demands accounts) l c.places c.told)
            (append_assoc log (x ∷ []) more) c.spells;
        ends = c.ends;
      }

  -- a log is completed by lines that close one number, and then those that complete the log with these
  closing_number_completes_log : (n : ℕ) → IsSessionNumber n
      → (lines : List LogLine) (log : List (Numbered LogLine)) (places : ℕ → Place) (told : List AccountAttempt)
      → IsNumberedLogUpTo limit (demands accounts) log places told → Free log → Closes accounts (places n) lines
      → ((longer : List (Numbered LogLine)) (after : ℕ → Place) (all : List AccountAttempt)
      → IsNumberedLogUpTo limit (demands accounts) longer after all → Free longer
      → after n ≡ between → ((m : ℕ) → (n ≡ m → ⊥) → after m ≡ places m) → IsNumberedCompletable limit accounts longer)
      → (others : List (Numbered LogLine)) × EndSessions others
      × IsNumberedCompletedBy limit accounts log (map (numbered n) lines ++ others)
  closing_number_completes_log n number [] log places told s free closed on =
      on log places told s free closed (λ m other. refl)
  closing_number_completes_log n number (line ∷ more) log places told s free (plain, quiet, next, goes, closes) on =
      let longer = log ++ numbered n line ∷ [] in
      let s' = numbered_log_goes_on limit (demands accounts) log places told n line next s (record {
        room = plain.room limit log n;
        next = λ before x e. free before x e n line;
        goes = inl goes;
        due = subst (HaveDueReplies (demands accounts) (reverse told)) (sym quiet) tt;
      }) in
      let (others, end, c) = closing_number_completes_log n number more longer (put n next places) (told ++ told_at (places n) line) s'
      (log_is_free_after log n line (plain.follow n))
      (subst (λ (p : Place). Closes accounts p more) (sym (put_sets_own n next places)) closes)
      (λ after_log after all r free' at kept. on after_log after all r free' at
      (λ m other. kept m other ∙ put_keeps_others n next places m other)) in (
        others,
        end,
        numbered_line_and_others_complete_log log n line (map (numbered n) more ++ others) number plain.has_number plain.writable c,
      )

  -- a log can be completed by a halt if the place of some number allows it
  halt_completes_log : (log : List (Numbered LogLine)) (places : ℕ → Place) (told : List AccountAttempt) (n : ℕ) → IsSessionNumber n
      → IsNumberedLogUpTo limit (demands accounts) log places told → Free log
      → IsTransition (demands accounts) (places n) (said halt) halted
      → told_at (places n) (said halt) ≡ [] → IsNumberedCompletable limit accounts log
  halt_completes_log log places told n number s free goes quiet =
      let s' = numbered_log_goes_on limit (demands accounts) log places told n (said halt) halted s (record {
        room = tt;
        next = λ before x e. free before x e n (said halt);
        goes = inl goes;
        due = subst (HaveDueReplies (demands accounts) (reverse told)) (sym quiet) tt;
      }) in (
        numbered n (said halt) ∷ [],
        halt_ends_sessions n,
        numbered_line_and_others_complete_log log n (said halt) [] number tt halt_is_writable
            (ended_numbered_log_is_complete (log ++ numbered n (said halt) ∷ []) (put n halted places)
            (told ++ told_at (places n) (said halt)) s' (inr (n, put_sets_own n halted places))),
      )

module _ (limit : ℕ) (accounts : Accounts) (fit : AllCanBeChallenged accounts) where
  -- if all numbers from k on are closed, the log is completed by closing those below k
  pub closing_all_completes_log : (k : ℕ) (log : List (Numbered LogLine)) (places : ℕ → Place) (told : List AccountAttempt)
      → IsNumberedLogUpTo limit (demands accounts) log places told → Free log → OpenInRange places → ((n : ℕ) → k ≤ n → places n ≡ between)
      → IsNumberedCompletable limit accounts log
  closing_all_completes_log zero log places told s free ranged closed =
      ended_numbered_log_is_completable limit accounts log places told s (inl (λ n. closed n (omega arith)))
  closing_all_completes_log (suc k) log places told s free ranged closed =
      let below : (p : ℕ → Place) → p k ≡ between → ((m : ℕ) → (k ≡ m → ⊥) → p m ≡ places m) → (n : ℕ) → k ≤ n → p n ≡ between =
      λ p at others n most. elim (eqb_tells k n) [
        | inl same ↦ subst (λ (m : ℕ). p m ≡ between) same.1 at
        | inr other ↦ others n other.1 ∙ closed n (omega (arith, most, other.1))
      ]
      in
      let ranged_on : (p : ℕ → Place) → p k ≡ between → ((m : ℕ) → (k ≡ m → ⊥) → p m ≡ places m) → OpenInRange p =
      λ p at others. one_and_others_cover_each (λ (m : ℕ). is_closed (p m) ≡ false → IsSessionNumber m) k
      (λ is. let wrong = sym (ap is_closed at) ∙ is in cc wrong)
      (λ m other is. ranged m (sym (ap is_closed (others m other)) ∙ is))
      in
      elim (cases_Bool (is_closed (places k))) [
        | inl is ↦
            let at = closed_is_between (places k) is (no_number_is_before_all limit (demands accounts) log places told s k) in
            closing_all_completes_log k log places told s free ranged (below places at (λ m other. refl))
        | inr opens ↦
            let number = ranged k opens in
            let opened = number_challenge_meets_demand limit (demands accounts) log places told s k in
            elim (place_has_exit accounts fit (places k) opened) [
              | inl closable ↦
                  let (others, end, c) = closing_number_completes_log limit accounts k number closable.0 log places told s free closable.1
                  (λ longer after all r free' at kept. closing_all_completes_log k longer after all r free'
                  (ranged_on after at kept) (below after at kept)) in (
                    map (numbered k) closable.0 ++ others,
                    one_session_and_others_end k closable.0 others closable.2 end,
                    c,
                  )
              | inr (inl start) ↦ absurd (no_number_is_before_all limit (demands accounts) log places told s k start)
              | inr (inr (inl waits)) ↦
                  halt_completes_log limit accounts log places told k number s free
                  (subst (λ (p : Place). IsTransition (demands accounts) p (said halt) halted) (sym waits.2) refl)
                  (ap (λ (p : Place). told_at p (said halt)) waits.2)
              | inr (inr (inr halts)) ↦ ended_numbered_log_is_completable limit accounts log places told s (inr (k, halts))
            ]
      ]
