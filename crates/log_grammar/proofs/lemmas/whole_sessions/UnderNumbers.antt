-- A log of version 2 is clean if and only if the lines of each number are those of a whole session, or may be cut short by a halt.
use Rattle.std.proofs.Common.{◌≡◌, ◌⊎◌, ◌↔◌, inl, inr, ℕ, true, List, [], ◌∷◌, ◌++◌, length, refl, sym, ◌∙◌, ap, subst, arith}
use Rattle.std.specs.Prelude.{map, count_by}
use Rattle.std.specs.declared.option.Option.{Option}
use Rattle.std.specs.declared.option.Option.TheVariants.{None, Some}
use Rattle.std.proofs.lemmas.Bool.Decides.{eqb_tells}
use Rattle.std.proofs.lemmas.List.{same_from_push}
use Rattle.scram_text.proofs.lemmas.ListEnds.{nonempty_has_last, same_head_and_tail, empty_has_no_last}
use Rattle.account_book.specs.AccountAttempt.{AccountAttempt}
use Rattle.log_grammar.specs.Lines.{LogLine, said, heard, mechs, busy, halt, abort}
use Rattle.log_grammar.specs.laws.LastLines.{EndsWith}
use Rattle.log_grammar.specs.Places.{MayEnd}
use Rattle.log_grammar.specs.Demands.{Accounts, demands}
use Rattle.log_grammar.specs.laws.FitAccounts.{AllCanBeChallenged}
use Rattle.log_grammar.specs.laws.NumberedBySessions.{IsClosedVisit, IsHaltedVisit, IsNumberedLogOf}
use Rattle.log_grammar.specs.LogKinds.{IsCleanOf}
use Rattle.log_grammar.specs.VersionTwo.{version_two}
use Rattle.log_grammar.specs.Versions.{max_open_sessions}
use Rattle.log_grammar.specs.Numbered.{Numbered, numbered, of_number, Visit, let_in, turned_away, visit_lines, visit_told, visit_place, VisitMeets}
use Rattle.log_grammar.specs.Numbered.{is_reply, MayBeNumbered, MayFollow}
use Rattle.log_grammar.specs.CleanLogs.{AreOfNumber, not_given, is_let_in, is_turned_away, BeginNumber, EndsInHalt, HasRoom, IsCleanNumbered}
use Rattle.log_grammar.proofs.lemmas.ListEnds.{empty_has_no_element}
use Rattle.log_grammar.proofs.lemmas.completions.OpenSessions.{no_number_is_before_all}
use Rattle.log_grammar.proofs.lemmas.many_sessions.HaltAndBusy.{line_is_halt_or_busy_or_followed}
use Rattle.log_grammar.proofs.lemmas.many_sessions.LinesOfNumber.{of_number-append, of_number-own_items, equal_parts_are_same_numbered}
use Rattle.log_grammar.proofs.lemmas.many_sessions.OneReading.{number_challenge_meets_demand}
use Rattle.log_grammar.proofs.lemmas.session_laws.OfSessions.{ending_place_is_between_or_halted}
use Rattle.log_grammar.proofs.lemmas.session_laws.NumberedOfSessions.{closed_visit_is_between, visit_between_is_closed}
use Rattle.log_grammar.proofs.lemmas.session_laws.NumberedOfSessions.{visit_at_halt_is_halted, log_of_sessions_is_spelled}
use Rattle.log_grammar.proofs.lemmas.session_laws.NumberedOfSessions.{clean_numbered_logs_are_those_of_sessions}
use Rattle.log_grammar.proofs.lemmas.whole_sessions.BegunNumbers.{equal_lists_begin_alike, first_lines_have_visit, ended_visit_is_whole}
use Rattle.log_grammar.proofs.lemmas.whole_sessions.BegunNumbers.{visit_begins_number}
use Rattle.log_grammar.proofs.lemmas.whole_sessions.ReplyCounts.{visit_replies_are_counted, number_has_as_many}
use Rattle.log_grammar.proofs.lemmas.whole_sessions.WholeTrees.{whole_session_has_tree}

-- there is room for a line of a number if and only if the number may have the line
room_iff_may_be_numbered : (before : List (Numbered LogLine)) (n : ℕ) (line : LogLine)
    → HasRoom before n line ↔ MayBeNumbered max_open_sessions before n line
room_iff_may_be_numbered before n (said (mechs names)) =
    (λ room. (room.0, omega (arith, room.1)), λ room. (room.0, omega (arith, room.1)))
room_iff_may_be_numbered before n (said busy) = (λ room. (room.0, omega (arith, room.1)), λ room. (room.0, omega (arith, room.1)))
room_iff_may_be_numbered before n (heard abort) = (λ room. tt, λ room. tt)
room_iff_may_be_numbered before n line = (λ room. tt, λ room. tt)

-- a line of a number stands in the log
line_of_number_stands : (n : ℕ) (log : List (Numbered LogLine)) (earlier : List LogLine) (line : LogLine) (later : List LogLine)
    → of_number n log ≡ earlier ++ line ∷ later
    → (before : List (Numbered LogLine)) × (more : List (Numbered LogLine)) × (log ≡ before ++ numbered n line ∷ more)
line_of_number_stands n [] earlier line later e = absurd (empty_has_no_element earlier line later e)
line_of_number_stands n (x ∷ log) [] line later e = elim (eqb_tells n x.number) [
  | inl same ↦
      let is = rw same.0 at e in
      let first = same_head_and_tail x.value line (of_number n log) later is in
      ([], log, ap (λ z. z ∷ log) (equal_parts_are_same_numbered x.number n x.value line (sym same.1) first.0))
  | inr other ↦
      let found = line_of_number_stands n log [] line later (rw other.0 at e) in
      (x ∷ found.0, found.1, ap (λ l. x ∷ l) found.2)
]
line_of_number_stands n (x ∷ log) (y ∷ earlier) line later e = elim (eqb_tells n x.number) [
  | inl same ↦
      let is = rw same.0 at e in
      let tail = same_head_and_tail x.value y (of_number n log) (earlier ++ line ∷ later) is in
      let found = line_of_number_stands n log earlier line later tail.1 in
      (x ∷ found.0, found.1, ap (λ l. x ∷ l) found.2)
  | inr other ↦
      let found = line_of_number_stands n log (y ∷ earlier) line later (rw other.0 at e) in
      (x ∷ found.0, found.1, ap (λ l. x ∷ l) found.2)
]

-- nothing follows a halt
abbrev NothingFollowsHalt : List (Numbered LogLine) → Type 0
NothingFollowsHalt log = (before : List (Numbered LogLine)) (x y : Numbered LogLine) (rest : List (Numbered LogLine))
    → log ≡ before ++ x ∷ y ∷ rest → MayFollow x.number x.value y.number y.value

-- a halt that stands in a log ends it
standing_halt_is_last : (log before more : List (Numbered LogLine)) (n : ℕ) → NothingFollowsHalt log
    → log ≡ before ++ numbered n (said halt) ∷ more → EndsInHalt log
standing_halt_is_last log before [] n next same = (before, n, same)
standing_halt_is_last log before (y ∷ more) n next same = absurd (next before (numbered n (said halt)) y more same)

-- if the lines of a number end with a halt, so does the log
halted_number_ends_log : (log : List (Numbered LogLine)) (n : ℕ) → NothingFollowsHalt log → EndsWith (of_number n log) (said halt ∷ [])
    → EndsInHalt log
halted_number_ends_log log n next (earlier, same) =
    let found = line_of_number_stands n log earlier (said halt) [] same in standing_halt_is_last log found.0 found.1 n next found.2

-- it is decidable whether the last line is a halt
decided_halt : (log : List (Numbered LogLine)) → EndsInHalt log ⊎ (EndsInHalt log → ⊥)
decided_halt [] = inr (λ ends. empty_has_no_last ends.0 (numbered ends.1 (said halt)) (sym ends.2))
decided_halt (x ∷ log) =
    let last = nonempty_has_last x log in
    elim (line_is_halt_or_busy_or_followed last.1.value) [
      | inl is ↦ inl (last.0, last.1.number, last.2 ∙ ap (λ (l : LogLine). last.0 ++ numbered last.1.number l ∷ []) is)
      | inr (inl is) ↦ inr (λ ends. other_line_is_no_halt ends last.0 last.1 last.2 (λ e. let wrong = sym is ∙ e in cc wrong))
      | inr (inr follow) ↦ inr (λ ends. other_line_is_no_halt ends last.0 last.1 last.2
          (λ e. subst (λ (l : LogLine). MayFollow 0 l 0 l) e (follow 0 0 last.1.value)))
    ]
  where
    other_line_is_no_halt : EndsInHalt (x ∷ log) → (front : List (Numbered LogLine)) (last : Numbered LogLine)
        → x ∷ log ≡ front ++ last ∷ [] → (last.value ≡ said halt → ⊥) → ⊥
    other_line_is_no_halt ends front last same other =
        other (ap (λ (z : Numbered LogLine). z.value) (same_from_push front ends.0 last (numbered ends.1 (said halt)) (sym same ∙ ends.2)).1)

-- a halted visit ends with a halt
halted_visit_ends : (o : Option Visit) → IsHaltedVisit o → EndsWith (visit_lines o) (said halt ∷ [])
halted_visit_ends None is = absurd is
halted_visit_ends (Some visit) is = is

-- a visit that ends with a halt is halted
visit_that_ends_is_halted : (o : Option Visit) → EndsWith (visit_lines o) (said halt ∷ []) → IsHaltedVisit o
visit_that_ends_is_halted None (before, same) = absurd (empty_has_no_last before (said halt) (sym same))
visit_that_ends_is_halted (Some visit) is = is

-- a visit that meets the demands has these lines and attempts; a log may end where it stands, unless this log ends in a halt
record HasVisit (accounts : Accounts) (log : List (Numbered LogLine)) (lines : List LogLine) (told : List AccountAttempt) : Type 0 where
  visit : Option Visit
  are : lines ≡ visit_lines visit
  told_are : told ≡ visit_told visit
  good : VisitMeets (demands accounts) visit
  over : MayEnd (visit_place visit) ⊎ EndsInHalt log

module _ (accounts : Accounts) where
  -- the lines of a number are those of a visit that has ended
  whole_number_has_visit : (log : List (Numbered LogLine)) (lines : List LogLine) (told : List AccountAttempt)
      → AreOfNumber accounts lines told → HasVisit accounts log lines told
  whole_number_has_visit log lines told not_given =
      record { visit = None; are = refl; told_are = refl; good = tt; over = inl tt }
  whole_number_has_visit log lines told (is_let_in s) =
      let t = whole_session_has_tree accounts _ _ s in
      record { visit = Some (let_in t.tree); are = sym t.are; told_are = sym t.told_are; good = t.good; over = inl t.ends }
  whole_number_has_visit log lines told is_turned_away =
      record { visit = Some (turned_away true); are = refl; told_are = refl; good = tt; over = inl tt }

  -- lines that begin those of a number are those of a visit, and the attempts are its attempts if they are as many
  begun_number_has_visit : (log : List (Numbered LogLine)) (lines : List LogLine) (told : List AccountAttempt) → EndsInHalt log
      → BeginNumber accounts lines told → ((o : Option Visit) → lines ≡ visit_lines o → length told ≡ length (visit_told o))
      → HasVisit accounts log lines told
  begun_number_has_visit log lines told halts (more, later, whole) as_many =
      let w = whole_number_has_visit log (lines ++ more) (told ++ later) whole in
      let f = first_lines_have_visit (demands accounts) more lines w.visit w.good w.are in
      record {
        visit = f.visit;
        are = f.are;
        told_are = equal_lists_begin_alike told (visit_told f.visit) later f.later (as_many f.visit f.are) (w.told_are ∙ f.told_are);
        good = f.good;
        over = inr halts;
      }

  module _ (bytes : List ℕ) (c : IsCleanNumbered accounts bytes) where
    -- each number has a visit
    number_has_visit : (n : ℕ) → HasVisit accounts c.lines (of_number n c.lines) (of_number n c.told)
    number_has_visit n = elim (c.each n) [
      | inl whole ↦ whole_number_has_visit c.lines (of_number n c.lines) (of_number n c.told) whole
      | inr begun ↦ begun_number_has_visit c.lines (of_number n c.lines) (of_number n c.told) begun.0 begun.1
          (λ o same. number_has_as_many n c.lines c.told c.order ∙ ap (count_by is_reply) same ∙ visit_replies_are_counted o)
    ]

    -- in a log that does not end in a halt, each number is closed
    number_is_closed : (EndsInHalt c.lines → ⊥) → (n : ℕ) → IsClosedVisit (number_has_visit n).visit
    number_is_closed none n =
        let v = number_has_visit n in
        elim v.over [
          | inr halts ↦ absurd (none halts)
          | inl ends ↦ elim (ending_place_is_between_or_halted (visit_place v.visit) ends) [
            | inl is ↦ visit_between_is_closed v.visit is
            | inr is ↦ absurd (none (halted_number_ends_log c.lines n c.next
                (subst (λ (l : List LogLine). EndsWith l (said halt ∷ [])) (sym v.are)
                (halted_visit_ends v.visit (visit_at_halt_is_halted v.visit is)))))
          ]
        ]

    -- in a log that ends in a halt, a number is halted
    number_is_halted : EndsInHalt c.lines → (n : ℕ) × IsHaltedVisit (number_has_visit n).visit
    number_is_halted (before, n, same) =
        let v = number_has_visit n in
        let own = ap (of_number n) same ∙ of_number-append n before (numbered n (said halt) ∷ [])
        ∙ ap (λ (l : List LogLine). of_number n before ++ l) (of_number-own_items n (said halt ∷ [])) in
        (n, visit_that_ends_is_halted v.visit (of_number n before, sym v.are ∙ own))

    -- a log of version 2 that is made of whole sessions has their trees
    numbered_log_has_trees : IsNumberedLogOf max_open_sessions accounts bytes c.lines
    numbered_log_has_trees = record {
      spelled = c.spelled;
      written = c.written;
      visit = λ n. (number_has_visit n).visit;
      numbered_told = c.told;
      sessions = record {
        lines = λ n. (number_has_visit n).are;
        good = λ n. (number_has_visit n).good;
        room = λ before x more e. (room_iff_may_be_numbered before x.number x.value).0 (c.room before x more e);
        next = c.next;
        told_of_each = λ n. (number_has_visit n).told_are;
        order = c.order;
      };
      finished = elim (decided_halt c.lines) [
        | inl halts ↦ inr (number_is_halted halts)
        | inr none ↦ inl (number_is_closed none)
      ];
      histories = c.histories;
    }

  -- the lines of each number of a clean log are those of a number, or a halt cuts them short
  number_is_whole_or_cut : AllCanBeChallenged accounts → (limit : ℕ) (bytes : List ℕ) (log : List (Numbered LogLine))
      (l : IsNumberedLogOf limit accounts bytes log) (n : ℕ)
      → AreOfNumber accounts (of_number n log) (of_number n l.numbered_told)
      ⊎ (EndsInHalt log × BeginNumber accounts (of_number n log) (of_number n l.numbered_told))
  number_is_whole_or_cut fit limit bytes log l n =
      let s = log_of_sessions_is_spelled limit accounts bytes log l in
      let places = λ (m : ℕ). visit_place (l.visit m) in
      let told = map (λ (t : Numbered AccountAttempt). t.value) l.numbered_told in
      elim l.finished [
        | inl all ↦ inl
            (subst (λ (t : List AccountAttempt). AreOfNumber accounts (of_number n log) t) (sym (l.sessions.told_of_each n))
            (subst (λ (ls : List LogLine). AreOfNumber accounts ls (visit_told (l.visit n))) (sym (l.sessions.lines n))
            (ended_visit_is_whole accounts (l.visit n) (l.sessions.good n)
            (subst MayEnd (sym (closed_visit_is_between (l.visit n) (all n))) tt))))
        | inr halts ↦ inr (
          halted_number_ends_log log halts.0 l.sessions.next
              (subst (λ (ls : List LogLine). EndsWith ls (said halt ∷ [])) (sym (l.sessions.lines halts.0))
              (halted_visit_ends (l.visit halts.0) halts.1)),
          subst (λ (t : List AccountAttempt). BeginNumber accounts (of_number n log) t) (sym (l.sessions.told_of_each n))
              (subst (λ (ls : List LogLine). BeginNumber accounts ls (visit_told (l.visit n))) (sym (l.sessions.lines n))
              (visit_begins_number accounts fit (l.visit n) (l.sessions.good n)
              (number_challenge_meets_demand limit (demands accounts) log places told s n)
              (no_number_is_before_all limit (demands accounts) log places told s n))),
        )
      ]

  -- a clean log of version 2 is made of whole sessions
  clean_log_is_numbered : AllCanBeChallenged accounts → (bytes : List ℕ) (log : List (Numbered LogLine))
      → IsNumberedLogOf max_open_sessions accounts bytes log → IsCleanNumbered accounts bytes
  clean_log_is_numbered fit bytes log l = record {
    lines = log;
    spelled = l.spelled;
    written = l.written;
    told = l.numbered_told;
    order = l.sessions.order;
    each = number_is_whole_or_cut fit max_open_sessions bytes log l;
    room = λ before x more e. (room_iff_may_be_numbered before x.number x.value).1 (l.sessions.room before x more e);
    next = l.sessions.next;
    histories = l.histories;
  }

  -- if a challenge can be written for each name, a log of version 2 is clean if and only if it is made of whole sessions
  pub clean_iff_numbered : AllCanBeChallenged accounts → (bytes : List ℕ)
      → IsCleanOf (version_two max_open_sessions accounts) bytes ↔ IsCleanNumbered accounts bytes
  clean_iff_numbered fit bytes =
      let law = clean_numbered_logs_are_those_of_sessions max_open_sessions accounts bytes in (
        λ clean. let l = law.0 clean in clean_log_is_numbered fit bytes l.0 l.1,
        λ c. law.1 (c.lines, numbered_log_has_trees bytes c),
      )
