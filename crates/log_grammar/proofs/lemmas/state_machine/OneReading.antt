-- A log is read in one way: its place and what was told in it follow from its lines. Its first lines are
-- again lines that a log may begin with.
use Rattle.std.proofs.Common.{◌≡◌, ℕ, List, [], ◌∷◌, ◌++◌, sym, ◌∙◌, ap, subst, refl}
use Rattle.account_book.specs.AccountAttempt.{AccountAttempt}
use Rattle.log_grammar.specs.Lines.{LogLine, heard, bad, gone, abort}
use Rattle.log_grammar.specs.Places.{Place, offered, waits_first, waits_final, waits_code, leaving, ending}
use Rattle.log_grammar.specs.Demands.{Demands}
use Rattle.log_grammar.specs.state_machine.Steps.{IsTransition, told_at}
use Rattle.log_grammar.specs.Begins.{Begins}
use Rattle.log_grammar.proofs.lemmas.state_machine.LogSteps.{log_has_last_transition, no_lines_begin_before_all}
use Rattle.log_grammar.proofs.lemmas.state_machine.Transitions.{IsClientsTurn, HoldsOfEachKind, each_transition_holds}
use Rattle.log_grammar.proofs.lemmas.ListEnds.{holds_by_last}

-- a challenge is that of one account
abbrev pub OneAccount : Demands → Type 0
OneAccount d = (m first account other text : List ℕ) → d.challenged m account first text → d.challenged m other first text → account ≡ other

-- a line by which a client ends its session leads from a place only to where such a line leads from any place
quit_has_one_next : (d : Demands) (at : Place) → IsClientsTurn at → (q : Place) → (IsTransition d at (heard abort) q → leaving ≡ q)
    × (IsTransition d at bad q → leaving ≡ q) × (IsTransition d at gone q → ending ≡ q)
quit_has_one_next d offered turn q = (λ k. sym k, λ k. sym k, λ k. sym k)
quit_has_one_next d (waits_first m) turn q = (λ k. sym k, λ k. sym k, λ k. sym k)
quit_has_one_next d (waits_final m account first challenge) turn q = (λ k. sym k, λ k. sym k, λ k. sym k)
quit_has_one_next d (waits_code account) turn q = (λ k. sym k, λ k. sym k, λ k. sym k)
quit_has_one_next d at turn q = absurd turn

-- each place to which a line leads from a place is this one
abbrev IsOnlyNext : Demands → Place → LogLine → Place → Type 0
IsOnlyNext d at line next = (q : Place) → IsTransition d at line q → next ≡ q

-- a line of each kind leads to one place
each_kind_has_one_next : (d : Demands) → OneAccount d → HoldsOfEachKind d (IsOnlyNext d)
each_kind_has_one_next d one = record {
  first_line = λ q k. sym k;
  session = λ names due q k. sym k.1;
  aborts = λ at turn q. (quit_has_one_next d at turn q).0;
  sends_bad = λ at turn q. (quit_has_one_next d at turn q).1;
  goes_away = λ at turn q. (quit_has_one_next d at turn q).2;
  farewell = λ text due q k. sym k.1;
  closed = λ q k. sym k;
  without_first = λ m q k. sym k;
  unoffered = λ m text due q k. sym k.1;
  invited = λ m text due q k. sym k.1;
  sends_first = λ m first q k. sym k;
  with_first = λ m first q k. sym k;
  refused = λ m first text due q k. sym k.1;
  challenged = λ m account first challenge due q k.
      ap (λ (a : List ℕ). waits_final m a first challenge) (one m first account k.0 challenge due k.1) ∙ sym k.2;
  sends_final = λ m account first challenge last q k. sym k;
  denied = λ m account first challenge last text due q k. sym k.1;
  granted = λ m account first challenge last text due q k. sym k.1;
  sends_code = λ account text q k. sym k;
  sends_two_codes = λ account one two q k. sym k;
  replied = λ account sent moment reply q k. sym k;
  halts = λ account sent q k. sym k;
}

-- a line leads from a place to one place
pub one_next_place : (d : Demands) → OneAccount d → (at : Place) (line : LogLine) (p q : Place) → IsTransition d at line p
    → IsTransition d at line q → p ≡ q
one_next_place d one at line p q h k = each_transition_holds d (IsOnlyNext d) (each_kind_has_one_next d one) at line p h q k

-- the recorded replies stay equal if equal ones are followed by the same line at the same place
pub same_line_tells_same : (told other : List AccountAttempt) (p q : Place) (x y : LogLine) → told ≡ other → p ≡ q → x ≡ y
    → told ++ told_at p x ≡ other ++ told_at q y
same_line_tells_same told other p q x y a b c =
    ap (λ (t : List AccountAttempt). t ++ told_at p x) a ∙ ap (λ (r : Place). other ++ told_at r x) b ∙ ap
    (λ (l : LogLine). other ++ told_at q l) c

-- the place and what was told follow from the lines
pub lines_have_one_reading : (d : Demands) → OneAccount d → (log : List LogLine) (p q : Place) (told other : List AccountAttempt)
    → Begins d log p told → Begins d log q other → (p ≡ q) × (told ≡ other)
lines_have_one_reading d one = holds_by_last
    (λ log. (p q : Place) (told other : List AccountAttempt) → Begins d log p told → Begins d log q other → (p ≡ q) × (told ≡ other))
    (λ p q told other s r.
    let a = no_lines_begin_before_all d p told s in
    let b = no_lines_begin_before_all d q other r in
    (a.0 ∙ sym b.0, a.1 ∙ sym b.1))
    (λ log line earlier p q told other s r.
    let a = log_has_last_transition d log line p told s in
    let b = log_has_last_transition d log line q other r in
    let same = earlier a.place b.place a.told b.told a.begins b.begins in
    let moved = subst (λ (at : Place). IsTransition d at line q) (sym same.0) b.goes in (
      one_next_place d one a.place line p q a.goes moved,
      a.told_are ∙ same_line_tells_same a.told b.told a.place b.place line line same.1 same.0 refl ∙ sym b.told_are,
    ))

-- without its last line a log still begins as a log may
pub shorter_log_begins : (d : Demands) (log : List LogLine) (line : LogLine) (p : Place) (told : List AccountAttempt)
    → Begins d (log ++ line ∷ []) p told → (q : Place) × (other : List AccountAttempt) × Begins d log q other
shorter_log_begins d log line p told begins = let b = log_has_last_transition d log line p told begins in (b.place, b.told, b.begins)
