-- A log of version 2 has only one reading, its first lines are such a log too, and the challenge at a number's place meets its demand.
use Rattle.std.proofs.Common.{◌≡◌, inl, inr, ℕ, List, [], ◌∷◌, ◌++◌, reverse, refl, sym, ◌∙◌, ap, subst, append_assoc, append-nil}
use Rattle.account_book.specs.AccountAttempt.{AccountAttempt}
use Rattle.log_grammar.specs.Lines.{LogLine}
use Rattle.log_grammar.specs.Places.{Place, between}
use Rattle.log_grammar.specs.Demands.{Demands, HaveDueReplies}
use Rattle.log_grammar.specs.state_machine.Steps.{IsTransition, told_at}
use Rattle.log_grammar.specs.Numbered.{Numbered, IsNumberedLogUpTo}
use Rattle.log_grammar.specs.state_machine.NumberedSteps.{IsVisitTransition, IsNumberedTransition}
use Rattle.log_grammar.proofs.lemmas.many_sessions.HaltAndBusy.{busy_stands_in_no_session}
use Rattle.log_grammar.proofs.lemmas.many_sessions.WithoutLast.{numbered_log_has_last_transition}
use Rattle.log_grammar.proofs.lemmas.many_sessions.NumberedReplies.{values_of, nothing_is_told_without_numbers}
use Rattle.log_grammar.proofs.lemmas.demands.StillChallenged.{ChallengeMeetsDemand, each_line_keeps_demand}
use Rattle.log_grammar.proofs.lemmas.many_sessions.LinesOfNumber.{one_and_others_cover_each}
use Rattle.log_grammar.proofs.lemmas.state_machine.OneReading.{OneAccount, one_next_place, same_line_tells_same}
use Rattle.log_grammar.proofs.lemmas.ListEnds.{holds_by_last}
use Rattle.log_grammar.proofs.lemmas.many_sessions.Visits.{empty_visit_is_between}

-- a line leads from a number's place to only one place
pub one_next_visit_place : (d : Demands) → OneAccount d → (at : Place) (line : LogLine) (p q : Place) → IsVisitTransition d at line p
    → IsVisitTransition d at line q → p ≡ q
one_next_visit_place d one at line p q (inl h) (inl k) = one_next_place d one at line p q h k
one_next_visit_place d one at line p q (inl h) (inr b) =
    absurd (busy_stands_in_no_session d at p (subst (λ (l : LogLine). IsTransition d at l p) b.1 h))
one_next_visit_place d one at line p q (inr b) (inl k) =
    absurd (busy_stands_in_no_session d at q (subst (λ (l : LogLine). IsTransition d at l q) b.1 k))
one_next_visit_place d one at line p q (inr b) (inr c) = b.2 ∙ sym c.2

-- if there is no line, no session is open and no reply is recorded
pub empty_log_tells_nothing : (limit : ℕ) (d : Demands) (places : ℕ → Place) (told : List AccountAttempt)
    → IsNumberedLogUpTo limit d [] places told → ((n : ℕ) → places n ≡ between) × (told ≡ [])
empty_log_tells_nothing limit d places told s = (
  λ n. s.after n ∙ empty_visit_is_between (s.visit n) (sym (s.sessions.lines n)),
  s.told_are ∙ ap values_of
      (nothing_is_told_without_numbers s.numbered_told s.sessions.order),
)

-- the places and the recorded replies follow from the lines
pub numbered_lines_have_one_reading : (limit : ℕ) (d : Demands) → OneAccount d
    → (log : List (Numbered LogLine)) (p q : ℕ → Place) (told other : List AccountAttempt)
    → IsNumberedLogUpTo limit d log p told → IsNumberedLogUpTo limit d log q other → ((n : ℕ) → p n ≡ q n) × (told ≡ other)
numbered_lines_have_one_reading limit d one = holds_by_last
    (λ log. (p q : ℕ → Place) (told other : List AccountAttempt) → IsNumberedLogUpTo limit d log p told
    → IsNumberedLogUpTo limit d log q other
    → ((n : ℕ) → p n ≡ q n) × (told ≡ other))
    (λ p q told other s r.
    let a = empty_log_tells_nothing limit d p told s in
    let b = empty_log_tells_nothing limit d q other r in
    (λ n. a.0 n ∙ sym (b.0 n), a.1 ∙ sym b.1))
    (λ log x earlier p q told other s r.
    let n = x.number in
    let line = x.value in
    let a = numbered_log_has_last_transition limit d log n line p told s in
    let b = numbered_log_has_last_transition limit d log n line q other r in
    let same = earlier a.before b.before a.told b.told a.spells b.spells in
    let moved = subst (λ (r : Place). IsVisitTransition d r line (q n)) (sym (same.0 n)) b.goes.goes in (
      one_and_others_cover_each (λ (m : ℕ). p m ≡ q m) n (one_next_visit_place d one (a.before n) line (p n) (q n) a.goes.goes moved)
          (λ m differ. a.others m differ ∙ same.0 m ∙ sym (b.others m differ)),
      a.told_are ∙ same_line_tells_same a.told b.told (a.before n) (b.before n) line line same.1 (same.0 n) refl ∙ sym b.told_are,
    ))

-- these lines are a log of version 2, and their replies are the first of these replies
pub record Front (limit : ℕ) (d : Demands) (log : List (Numbered LogLine)) (told : List AccountAttempt) : Type 0 where
  pub places : ℕ → Place
  pub earlier : List AccountAttempt
  pub rest : List AccountAttempt
  pub spells : IsNumberedLogUpTo limit d log places earlier
  pub told_are : told ≡ earlier ++ rest

-- the first lines of a log of version 2 are such a log, and their replies come first
pub front_told_comes_first : (limit : ℕ) (d : Demands) (log more : List (Numbered LogLine)) (p : ℕ → Place) (told : List AccountAttempt)
    → IsNumberedLogUpTo limit d (log ++ more) p told → Front limit d log told
front_told_comes_first limit d log = holds_by_last
    (λ more. (p : ℕ → Place) (told : List AccountAttempt) → IsNumberedLogUpTo limit d (log ++ more) p told → Front limit d log told)
    (λ p told s. record {
      places = p;
      earlier = told;
      rest = [];
      spells = subst (λ (l : List (Numbered LogLine)). IsNumberedLogUpTo limit d l p told) (append-nil log) s;
      told_are = sym (append-nil told);
    })
    (λ more x before p told s.
    let b = numbered_log_has_last_transition limit d (log ++ more) x.number x.value p told
    (subst (λ (l : List (Numbered LogLine)). IsNumberedLogUpTo limit d l p told) (sym (append_assoc log more (x ∷ []))) s) in
    let f = before b.before b.told b.spells in
    let this = told_at (b.before x.number) x.value in
    record {
      places = f.places;
      earlier = f.earlier;
      rest = f.rest ++ this;
      spells = f.spells;
      told_are = b.told_are ∙ ap (λ (t : List AccountAttempt). t ++ this) f.told_are ∙ append_assoc f.earlier f.rest this;
    })

-- if the challenge at a number's place meets its demand, so does the one at the place to which a line leads from there
visit_challenge_meets_demand : (d : Demands) (at : Place) (line : LogLine) (next : Place) → ChallengeMeetsDemand d at
    → IsVisitTransition d at line next → ChallengeMeetsDemand d next
visit_challenge_meets_demand d at line next is (inl h) = each_line_keeps_demand d at line next is h
visit_challenge_meets_demand d at line next is (inr b) = subst (ChallengeMeetsDemand d) (sym b.2) tt

-- in a log that meets the demands, the challenge at a number's place meets its demand
pub number_challenge_meets_demand : (limit : ℕ) (d : Demands) (log : List (Numbered LogLine)) (p : ℕ → Place) (told : List AccountAttempt)
    → IsNumberedLogUpTo limit d log p told → (n : ℕ) → ChallengeMeetsDemand d (p n)
number_challenge_meets_demand limit d = holds_by_last
    (λ log. (p : ℕ → Place) (told : List AccountAttempt) → IsNumberedLogUpTo limit d log p told → (n : ℕ) → ChallengeMeetsDemand d (p n))
    (λ p told s n. subst (ChallengeMeetsDemand d) (sym ((empty_log_tells_nothing limit d p told s).0 n)) tt)
    (λ log x earlier p told s.
    let n = x.number in
    let b = numbered_log_has_last_transition limit d log n x.value p told s in
    let was = earlier b.before b.told b.spells in
    one_and_others_cover_each (λ (m : ℕ). ChallengeMeetsDemand d (p m)) n
    (visit_challenge_meets_demand d (b.before n) x.value (p n) (was n) b.goes.goes)
    (λ m differ. subst (ChallengeMeetsDemand d) (sym (b.others m differ)) (was m)))

-- whether a number may have a line depends on its own place and the recorded replies, not on the places of other numbers
pub own_place_decides_transition : (limit : ℕ) (d : Demands) (log : List (Numbered LogLine)) (places other : ℕ → Place)
    (told also : List AccountAttempt) (n : ℕ)
    (line : LogLine) (to : Place)
    → IsNumberedTransition limit d log places told n line to → places n ≡ other n → told ≡ also
    → IsNumberedTransition limit d log other also n line to
own_place_decides_transition limit d log places other told also n line to g at same = record {
  room = g.room;
  next = g.next;
  goes = subst (λ (p : Place). IsVisitTransition d p line to) at g.goes;
  due = subst (λ (t : List AccountAttempt). HaveDueReplies d (reverse t) (told_at (other n) line)) same
      (subst (λ (p : Place). HaveDueReplies d (reverse told) (told_at p line)) at g.due);
}
