-- The lines of a number that has not ended begin those of a number, and the first lines of a number are those of some visit.
use Rattle.std.proofs.Common.{◌≡◌, inl, inr, ℕ, true, false, List, [], ◌∷◌, ◌++◌, length, take, refl, sym, ◌∙◌, ap, subst, arith}
use Rattle.std.proofs.Common.{append_assoc, append-nil}
use Rattle.std.specs.declared.option.Option.{Option}
use Rattle.std.specs.declared.option.Option.TheVariants.{None, Some}
use Rattle.std.proofs.Math.Seq.{take-append_seam}
use Rattle.account_book.specs.AccountAttempt.{AccountAttempt}
use Rattle.log_grammar.specs.Lines.{LogLine, said, halt}
use Rattle.log_grammar.specs.Places.{Place, MayEnd, before_all, between, halted}
use Rattle.log_grammar.specs.Demands.{Accounts, Demands, demands}
use Rattle.log_grammar.specs.laws.FitAccounts.{AllCanBeChallenged}
use Rattle.log_grammar.specs.state_machine.Steps.{IsTransition, told_at}
use Rattle.log_grammar.specs.state_machine.NumberedSteps.{IsVisitTransition}
use Rattle.log_grammar.specs.Numbered.{Visit, let_in, turned_away, visit_part, visit_lines, visit_told, visit_place, VisitMeets}
use Rattle.log_grammar.specs.CleanLogs.{AreOfNumber, not_given, is_let_in, is_turned_away, BeginNumber}
use Rattle.log_grammar.proofs.lemmas.ListEnds.{holds_by_last}
use Rattle.log_grammar.proofs.lemmas.completions.Closings.{Closes, place_has_exit}
use Rattle.log_grammar.proofs.lemmas.demands.StillChallenged.{ChallengeMeetsDemand}
use Rattle.log_grammar.proofs.lemmas.many_sessions.LogSteps.{first_line_takes_next_number, visit_line_between_takes_number}
use Rattle.log_grammar.proofs.lemmas.many_sessions.OwnPlaces.{visit_has_last_line}
use Rattle.log_grammar.proofs.lemmas.many_sessions.Visits.{IsGivenAndClosed, visit_goes_on}
use Rattle.log_grammar.proofs.lemmas.state_machine.Growth.{Grown}
use Rattle.log_grammar.proofs.lemmas.whole_sessions.FinishedTrees.{finished_session_is_whole}

-- lists of equal length that begin equal lists are equal
pub equal_lists_begin_alike : {X : Type 0} (xs ys more others : List X) → length xs ≡ length ys → xs ++ more ≡ ys ++ others → xs ≡ ys
equal_lists_begin_alike xs ys more others long same =
    sym (take-append_seam xs more) ∙ ap (take (length xs)) same ∙ ap (λ (n : ℕ). take n (ys ++ others)) long ∙ take-append_seam ys others

-- a visit that meets the demands and has these first lines
pub record HasFront (d : Demands) (lines : List LogLine) (o : Option Visit) : Type 0 where
  pub visit : Option Visit
  pub are : lines ≡ visit_lines visit
  pub good : VisitMeets d visit
  pub later : List AccountAttempt
  pub told_are : visit_told o ≡ visit_told visit ++ later

-- the first lines of a visit that meets the demands are those of such a visit
pub first_lines_have_visit : (d : Demands) (more lines : List LogLine) (o : Option Visit) → VisitMeets d o
    → lines ++ more ≡ visit_lines o → HasFront d lines o
first_lines_have_visit d = holds_by_last
    (λ more. (lines : List LogLine) (o : Option Visit) → VisitMeets d o → lines ++ more ≡ visit_lines o → HasFront d lines o)
    (λ lines o meets same. record {
      visit = o;
      are = sym (append-nil lines) ∙ same;
      good = meets;
      later = [];
      told_are = sym (append-nil (visit_told o));
    })
    (λ more x earlier lines o meets same.
    let (a, before, this) = visit_has_last_line d (lines ++ more) x o meets (append_assoc lines more (x ∷ []) ∙ same) in
    let f = earlier lines a.tree a.good before in
    record {
      visit = f.visit;
      are = f.are;
      good = f.good;
      later = f.later ++ told_at (visit_place a.tree) a.line;
      told_are = a.told_are ∙ ap (λ (t : List AccountAttempt). t ++ told_at (visit_place a.tree) a.line) f.told_are
          ∙ append_assoc (visit_told f.visit) f.later (told_at (visit_place a.tree) a.line);
    })

module _ (accounts : Accounts) where
  -- a visit that meets the demands and has ended has the lines of a number
  pub ended_visit_is_whole : (o : Option Visit) → VisitMeets (demands accounts) o → MayEnd (visit_place o)
      → AreOfNumber accounts (visit_lines o) (visit_told o)
  ended_visit_is_whole None meets ends = not_given
  ended_visit_is_whole (Some (let_in s)) meets ends = is_let_in (finished_session_is_whole accounts s meets ends)
  ended_visit_is_whole (Some (turned_away true)) meets ends = is_turned_away
  ended_visit_is_whole (Some (turned_away false)) meets ends = absurd ends

  -- a visit followed by these lines, which tell nothing, is one that has ended
  record IsEndedBy (o : Option Visit) (more : List LogLine) : Type 0 where
    visit : Option Visit
    lines : visit_lines visit ≡ visit_lines o ++ more
    told_are : visit_told visit ≡ visit_told o
    good : VisitMeets (demands accounts) visit
    ends : MayEnd (visit_place visit)

  -- with lines that end it, a visit begins those of a number
  ended_by_lines_begins : (o : Option Visit) (more : List LogLine) → IsEndedBy o more
      → BeginNumber accounts (visit_lines o) (visit_told o)
  ended_by_lines_begins o more e = (
    more,
    [],
    subst (λ (l : List LogLine). AreOfNumber accounts l (visit_told o ++ [])) e.lines
        (subst (λ (t : List AccountAttempt). AreOfNumber accounts (visit_lines e.visit) t)
        (e.told_are ∙ sym (append-nil (visit_told o))) (ended_visit_is_whole e.visit e.good e.ends)),
  )

  -- no line that may be written at any time follows the last line of a given number
  closed_visit_gets_no_line : (o : Option Visit) (line : LogLine) (next : Place) → IsGivenAndClosed o
      → ((n : ℕ) → n ≡ 1) → IsVisitTransition (demands accounts) (visit_place o) line next → ⊥
  closed_visit_gets_no_line o line next c one goes = let wrong = one 0 in absurd (omega (arith, wrong))

  -- a visit that goes on with one line, and is then ended by others, is ended by all of them
  grown_visit_is_ended : (o : Option Visit) (line : LogLine) (next : Place) (more : List LogLine)
      (g : Grown (demands accounts) visit_part o line next []) → IsEndedBy g.tree more → IsEndedBy o (line ∷ more)
  grown_visit_is_ended o line next more g e = record {
    visit = e.visit;
    lines = e.lines ∙ ap (λ (l : List LogLine). l ++ more) g.lines ∙ append_assoc (visit_lines o) (line ∷ []) more;
    told_are = e.told_are ∙ g.told_are ∙ append-nil (visit_told o);
    good = e.good;
    ends = e.ends;
  }

  -- a visit at a place where a log may end has ended
  ended_visit_is_ended : (o : Option Visit) → VisitMeets (demands accounts) o → MayEnd (visit_place o) → IsEndedBy o []
  ended_visit_is_ended o meets ends =
      record { visit = o; lines = sym (append-nil (visit_lines o)); told_are = refl; good = meets; ends = ends }

  -- lines that close the session at its place end a visit
  closing_lines_end_visit : (more : List LogLine) (o : Option Visit) → VisitMeets (demands accounts) o
      → Closes accounts (visit_place o) more → IsEndedBy o more
  closing_lines_end_visit [] o meets closed = ended_visit_is_ended o meets (subst MayEnd (sym closed) tt)
  closing_lines_end_visit (line ∷ more) o meets (plain, quiet, next, goes, closes) =
      elim (visit_goes_on (demands accounts) o line next meets (inl goes)) [
        | inl closed ↦ absurd (closed_visit_gets_no_line o line next closed
            (λ n. first_line_takes_next_number 1 [] n line (plain.room 1 [] n)
            (visit_line_between_takes_number (demands accounts) (visit_place o) line next closed.at (inl goes))) (inl goes))
        | inr grown ↦
            let g = subst (λ (t : List AccountAttempt). Grown (demands accounts) visit_part o line next t) quiet grown in
            grown_visit_is_ended o line next more g
            (closing_lines_end_visit more g.tree g.good (subst (λ (p : Place). Closes accounts p more) (sym g.at) closes))
      ]

  -- a halt ends a visit that waits for the reply to a code
  halt_ends_visit : (o : Option Visit) → VisitMeets (demands accounts) o
      → IsTransition (demands accounts) (visit_place o) (said halt) halted
      → told_at (visit_place o) (said halt) ≡ [] → (visit_place o ≡ between → ⊥) → IsEndedBy o (said halt ∷ [])
  halt_ends_visit o meets goes quiet opens =
      elim (visit_goes_on (demands accounts) o (said halt) halted meets (inl goes)) [
        | inl closed ↦ absurd (opens closed.at)
        | inr grown ↦
            let g = subst (λ (t : List AccountAttempt). Grown (demands accounts) visit_part o (said halt) halted t) quiet grown in
            grown_visit_is_ended o (said halt) halted [] g (ended_visit_is_ended g.tree g.good (subst MayEnd (sym g.at) tt))
      ]

  -- if a challenge can be written for each name, and the visit's own challenge meets its demand, its lines begin those of a number
  pub visit_begins_number : AllCanBeChallenged accounts → (o : Option Visit) → VisitMeets (demands accounts) o
      → ChallengeMeetsDemand (demands accounts) (visit_place o) → (visit_place o ≡ before_all → ⊥)
      → BeginNumber accounts (visit_lines o) (visit_told o)
  visit_begins_number fit o meets opened never = elim (place_has_exit accounts fit (visit_place o) opened) [
    | inl closable ↦ ended_by_lines_begins o closable.0 (closing_lines_end_visit closable.0 o meets closable.1)
    | inr (inl start) ↦ absurd (never start)
    | inr (inr (inl waits)) ↦ ended_by_lines_begins o (said halt ∷ []) (halt_ends_visit o meets
        (subst (λ (p : Place). IsTransition (demands accounts) p (said halt) halted) (sym waits.2) refl)
        (ap (λ (p : Place). told_at p (said halt)) waits.2)
        (λ is. let wrong = sym waits.2 ∙ is in cc wrong))
    | inr (inr (inr halts)) ↦ ended_by_lines_begins o [] (ended_visit_is_ended o meets (subst MayEnd (sym halts) tt))
  ]
