-- A log of version 2 that meets the demands is also a log without demands, in which no account is named.
use Rattle.std.proofs.Common.{◌≡◌, inl, inr, ℕ, List, [], ◌∷◌, refl, sym, ◌∙◌, ap}
use Rattle.std.specs.Prelude.{map}
use Rattle.std.specs.declared.option.Option.{Option}
use Rattle.std.specs.declared.option.Option.TheVariants.{None, Some}
use Rattle.std.proofs.lemmas.Bool.Decides.{eqb_tells}
use Rattle.account_book.specs.AccountAttempt.{AccountAttempt}
use Rattle.log_grammar.specs.Lines.{LogLine, said, busy}
use Rattle.log_grammar.specs.Places.{Place}
use Rattle.log_grammar.specs.Demands.{Demands, no_demands}
use Rattle.log_grammar.specs.Numbered.{Numbered, numbered, of_number, Visit, let_in, turned_away, visit_part, IsNumberedLogUpTo}
use Rattle.log_grammar.proofs.lemmas.state_machine.DemandsAside.{accountless_session, accountless_place, accountless_reply, IsAccountlessOf}
use Rattle.log_grammar.proofs.lemmas.state_machine.DemandsAside.{next_line_is_same_aside, closing_is_same_aside, session_is_same_aside}
use Rattle.log_grammar.proofs.lemmas.state_machine.DemandsAside.{any_replies_are_due}
use Rattle.log_grammar.proofs.lemmas.many_sessions.NumberedReplies.{numbers_of, values_of}

-- a number's visit, with no account named
abbrev accountless_visit : Option Visit → Option Visit
accountless_visit None = None
accountless_visit (Some (let_in s)) = Some (let_in (accountless_session s))
accountless_visit (Some (turned_away closed)) = Some (turned_away closed)

-- a number's visit has the same lines with no account named
visit_is_same_aside : (p : Option Visit) → IsAccountlessOf (visit_part (accountless_visit p)) (visit_part p)
visit_is_same_aside None = record { lines = refl; place = refl; told = refl; meets = tt }
visit_is_same_aside (Some (let_in s)) = session_is_same_aside s
visit_is_same_aside (Some (turned_away closed)) = next_line_is_same_aside (said busy) _ _ (closing_is_same_aside closed)

-- numbered replies with no account named
abbrev accountless_numbered_told : List (Numbered AccountAttempt) → List (Numbered AccountAttempt)
accountless_numbered_told numbered_told = map (λ (t : Numbered AccountAttempt). numbered t.number (accountless_reply t.value)) numbered_told

-- the replies of a number with no account named are its own replies with no account named
of_number-accountless : (n : ℕ) (numbered_told : List (Numbered AccountAttempt))
    → of_number n (accountless_numbered_told numbered_told) ≡ map accountless_reply (of_number n numbered_told)
of_number-accountless n [] = refl
of_number-accountless n (t ∷ numbered_told) = elim (eqb_tells n t.number) [
  | inl same ↦ rw same.0 (ap (λ (l : List AccountAttempt). accountless_reply t.value ∷ l) (of_number-accountless n numbered_told))
  | inr other ↦ rw other.0 (of_number-accountless n numbered_told)
]

-- replies with no account named keep their numbers
numbers_of-accountless : (numbered_told : List (Numbered AccountAttempt))
    → numbers_of (accountless_numbered_told numbered_told) ≡ numbers_of numbered_told
numbers_of-accountless [] = refl
numbers_of-accountless (t ∷ numbered_told) = ap (λ (l : List ℕ). t.number ∷ l) (numbers_of-accountless numbered_told)

-- lines of a log of version 2 that meet the demands are also lines of a log without demands, at the same places but with no account named
pub numbered_log_begins_aside : (limit : ℕ) (d : Demands) (log : List (Numbered LogLine)) (places : ℕ → Place) (told : List AccountAttempt)
    → IsNumberedLogUpTo limit d log places told
    → (told_are : List AccountAttempt) × IsNumberedLogUpTo limit no_demands log (λ n. accountless_place (places n)) told_are
numbered_log_begins_aside limit d log places told s = (
  values_of (accountless_numbered_told s.numbered_told),
  record {
    visit = λ n. accountless_visit (s.visit n);
    numbered_told = accountless_numbered_told s.numbered_told;
    sessions = record {
      lines = λ n. s.sessions.lines n ∙ sym (visit_is_same_aside (s.visit n)).lines;
      good = λ n. (visit_is_same_aside (s.visit n)).meets;
      room = s.sessions.room;
      next = s.sessions.next;
      told_of_each = λ n. of_number-accountless n s.numbered_told ∙ ap (map accountless_reply) (s.sessions.told_of_each n) ∙ sym
          (visit_is_same_aside (s.visit n)).told;
      order = numbers_of-accountless s.numbered_told ∙ s.sessions.order;
    };
    told_are = refl;
    replies = any_replies_are_due [] (values_of (accountless_numbered_told s.numbered_told));
    after = λ n. ap accountless_place (s.after n) ∙ sym (visit_is_same_aside (s.visit n)).place;
  },
)
