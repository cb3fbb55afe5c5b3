-- Among the lines of a number there are as many replies to codes as attempts are told of it.
use Rattle.std.proofs.Common.{◌≡◌, ◌+◌, ◌==◌, inl, inr, ℕ, Bool, true, false, List, [], ◌∷◌, length, refl, ◌∙◌, ap, cond, arith}
use Rattle.std.specs.Prelude.{map, count_by}
use Rattle.std.specs.declared.option.Option.{Option}
use Rattle.std.specs.declared.option.Option.TheVariants.{None, Some}
use Rattle.std.proofs.lemmas.Bool.{cases_Bool}
use Rattle.std.proofs.lemmas.Bool.Decides.{eqb_tells}
use Rattle.std.proofs.lemmas.List.Sums.{sum_by-append}
use Rattle.account_book.specs.AccountAttempt.{AccountAttempt}
use Rattle.log_grammar.specs.Lines.{LogLine, said, replies}
use Rattle.log_grammar.specs.Places.{Place}
use Rattle.log_grammar.specs.Sessions.{session}
use Rattle.log_grammar.specs.Numbered.{Numbered, of_number, Visit, let_in, turned_away, visit_lines, visit_told, is_reply, reply_numbers}
use Rattle.log_grammar.proofs.lemmas.session_laws.LaterLines.{IsInnerLine, HoldsFromTheLast, later_lines_hold}

-- with an element that is counted before them, one more is counted
counted_first_adds_one : {X : Type 0} (p : X → Bool) (x : X) (xs : List X) → p x ≡ true → count_by p (x ∷ xs) ≡ 1 + count_by p xs
counted_first_adds_one p x xs is =
    let one : count_by p (x ∷ []) ≡ 1 = rw is refl in
    omega (arith, one, sum_by-append (λ y. cond (p y) 1 0) (x ∷ []) xs)

-- with an element that is not counted before them, as many are counted
other_first_adds_none : {X : Type 0} (p : X → Bool) (x : X) (xs : List X) → p x ≡ false → count_by p (x ∷ xs) ≡ count_by p xs
other_first_adds_none p x xs is =
    let none : count_by p (x ∷ []) ≡ 0 = rw is refl in
    omega (arith, none, sum_by-append (λ y. cond (p y) 1 0) (x ∷ []) xs)

-- as many of the lines are replies as there are attempts
abbrev AsMany : List LogLine → Place → List AccountAttempt → Type 0
AsMany lines place told = count_by is_reply lines ≡ length told

-- with an inner line before them, as many of the lines are replies
inner_line_is_not_counted : (line : LogLine) → IsInnerLine line → (lines : List LogLine) (n : ℕ) → count_by is_reply lines ≡ n
    → count_by is_reply (line ∷ lines) ≡ n
inner_line_is_not_counted (said (replies moment reply)) inner lines n same = absurd inner
inner_line_is_not_counted line inner lines n same = same

-- that as many of the lines are replies as there are attempts holds from the last line of a session on
later_lines_are_counted : HoldsFromTheLast AsMany
later_lines_are_counted = record {
  no_line = λ place unfinished is. refl;
  last_end = refl;
  last_halt = refl;
  inner_line = λ line inner lines place told same. inner_line_is_not_counted line inner lines (length told) same;
  reply = λ account is sent moment reply lines place told same.
      omega (arith, same, counted_first_adds_one is_reply (said (replies moment reply)) lines refl);
}

-- among the lines of a visit there are as many replies as attempts
pub visit_replies_are_counted : (o : Option Visit) → count_by is_reply (visit_lines o) ≡ length (visit_told o)
visit_replies_are_counted None = refl
visit_replies_are_counted (Some (let_in (session names l))) = later_lines_hold AsMany later_lines_are_counted l
visit_replies_are_counted (Some (turned_away true)) = refl
visit_replies_are_counted (Some (turned_away false)) = refl

-- the attempts of a number are as many as the places of the number among those of all attempts
told_of_number_is_counted : (n : ℕ) (told : List (Numbered AccountAttempt))
    → length (of_number n told) ≡ count_by (λ m. n == m) (map (λ t. t.number) told)
told_of_number_is_counted n [] = refl
told_of_number_is_counted n (t ∷ told) =
    let rest = told_of_number_is_counted n told in
    let numbers = map (λ (a : Numbered AccountAttempt). a.number) told in
    elim (eqb_tells n t.number) [
      | inl same ↦ rw same.0 (omega (arith, rest, counted_first_adds_one (λ m. n == m) t.number numbers same.0))
      | inr other ↦ rw other.0 (omega (arith, rest, other_first_adds_none (λ m. n == m) t.number numbers other.0))
    ]

-- the replies of a number are as many as the places of the number among those of all replies
replies_of_number_are_counted : (n : ℕ) (log : List (Numbered LogLine))
    → count_by (λ m. n == m) (reply_numbers log) ≡ count_by is_reply (of_number n log)
replies_of_number_are_counted n [] = refl
replies_of_number_are_counted n (x ∷ log) =
    let rest = replies_of_number_are_counted n log in
    let numbers = reply_numbers log in
    let lines = of_number n log in
    elim (cases_Bool (is_reply x.value)) [
      | inl replied ↦ elim (eqb_tells n x.number) [
        | inl same ↦ rw (replied, same.0) (omega (
          arith,
          rest,
          counted_first_adds_one (λ m. n == m) x.number numbers same.0,
          counted_first_adds_one is_reply x.value lines replied,
        ))
        | inr other ↦ rw (replied, other.0) (omega (arith, rest, other_first_adds_none (λ m. n == m) x.number numbers other.0))
      ]
      | inr other ↦ elim (eqb_tells n x.number) [
        | inl same ↦ rw (other, same.0) (omega (arith, rest, other_first_adds_none is_reply x.value lines other))
        | inr differ ↦ rw (other, differ.0) rest
      ]
    ]

-- if attempts have the numbers of the replies in a log, those of a number are as many as the replies among its lines
pub number_has_as_many : (n : ℕ) (log : List (Numbered LogLine)) (told : List (Numbered AccountAttempt))
    → map (λ t. t.number) told ≡ reply_numbers log → length (of_number n told) ≡ count_by is_reply (of_number n log)
number_has_as_many n log told order =
    told_of_number_is_counted n told ∙ ap (λ (ms : List ℕ). count_by (λ m. n == m) ms) order ∙ replies_of_number_are_counted n log
