-- The reply that a line of a number records, and all recorded replies with their numbers.
use Rattle.std.proofs.Common.{◌≡◌, ◌⊎◌, inl, inr, ℕ, true, false, List, [], ◌∷◌, ◌++◌, refl, sym, ◌∙◌, ap, subst, append-nil}
use Rattle.std.specs.Prelude.{map}
use Rattle.std.proofs.lemmas.Bool.{eq-eqb}
use Rattle.std.proofs.lemmas.List.{same_from_push, map-append}
use Rattle.scram_text.proofs.lemmas.ListEnds.{empty_has_no_last, nonempty_has_last}
use Rattle.account_book.specs.AccountAttempt.{AccountAttempt, account_attempt_of}
use Rattle.log_grammar.specs.Lines.{LogLine, said, replies}
use Rattle.log_grammar.specs.Places.{Place, got_code}
use Rattle.log_grammar.specs.Demands.{Demands}
use Rattle.log_grammar.specs.state_machine.Steps.{IsTransition, told_at}
use Rattle.log_grammar.specs.Numbered.{Numbered, numbered, of_number, is_reply, reply_numbers}
use Rattle.log_grammar.specs.state_machine.NumberedSteps.{IsVisitTransition}
use Rattle.log_grammar.proofs.lemmas.many_sessions.LinesOfNumber.{of_number-append, equal_parts_are_same_numbered}

-- a line records one reply if it is a reply to a code, else none
abbrev pub TellsOfReply : Place → LogLine → Type 0
TellsOfReply place line = ((told_at place line ≡ []) × (is_reply line ≡ false))
    ⊎ ((t : AccountAttempt) × (told_at place line ≡ t ∷ []) × (is_reply line ≡ true))

-- a line that may stand at a session's place records one reply if it is a reply to a code, else none
line_tells_of_reply : (d : Demands) (place : Place) (line : LogLine) (next : Place) → IsTransition d place line next
    → TellsOfReply place line
line_tells_of_reply d (got_code account sent) (said (replies moment reply)) next h =
    inr (account_attempt_of account moment sent reply, refl, refl)
line_tells_of_reply d place (said (replies moment reply)) next h = absurd h
line_tells_of_reply d place line next h = inl (refl, refl)

-- a line that may stand at a number's place records one reply if it is a reply to a code, else none
pub visit_line_tells_of_reply : (d : Demands) (place : Place) (line : LogLine) (next : Place) → IsVisitTransition d place line next
    → TellsOfReply place line
visit_line_tells_of_reply d place line next (inl h) = line_tells_of_reply d place line next h
visit_line_tells_of_reply d place line next (inr b) = inl (ap (λ (p : Place). told_at p line) b.0, ap is_reply b.1)

-- these replies, each with this number
abbrev pub numbered_told_of : ℕ → List AccountAttempt → List (Numbered AccountAttempt)
numbered_told_of n told = map (numbered n) told

-- the numbers of numbered replies
abbrev pub numbers_of : List (Numbered AccountAttempt) → List ℕ
numbers_of numbered_told = map (λ t. t.number) numbered_told

-- numbered replies without their numbers
abbrev pub values_of : List (Numbered AccountAttempt) → List AccountAttempt
values_of numbered_told = map (λ t. t.value) numbered_told

-- replies that are given a number and then lose it are the same as before
pub values_are_told : (n : ℕ) (told : List AccountAttempt) → values_of (numbered_told_of n told) ≡ told
values_are_told n [] = refl
values_are_told n (t ∷ told) = ap (λ l. t ∷ l) (values_are_told n told)

-- the reply that a line records has the line's number
pub told_has_line_number : (n : ℕ) (place : Place) (line : LogLine) → TellsOfReply place line
    → numbers_of (numbered_told_of n (told_at place line)) ≡ reply_numbers (numbered n line ∷ [])
told_has_line_number n place line (inl none) = rw (none.0, none.1) refl
told_has_line_number n place line (inr one) = rw (one.1, one.2) refl

-- no reply is recorded if the list of numbers is empty
pub nothing_is_told_without_numbers : (numbered_told : List (Numbered AccountAttempt)) → numbers_of numbered_told ≡ [] → numbered_told ≡ []
nothing_is_told_without_numbers [] e = refl
nothing_is_told_without_numbers (m ∷ numbered_told) e = absurd (cc e)

-- the recorded replies are those recorded earlier, then those that a line of this number records
pub record ToldBefore (n : ℕ) (numbered_told : List (Numbered AccountAttempt)) (numbers : List ℕ)
    (before more : List AccountAttempt) : Type 0 where
  -- those recorded earlier
  pub earlier : List (Numbered AccountAttempt)
  -- all are these, then those of the line
  pub same : numbered_told ≡ earlier ++ numbered_told_of n more
  -- these are the numbers of the earlier ones
  pub order : numbers_of earlier ≡ numbers
  -- these are the earlier ones of this number
  pub mine : of_number n earlier ≡ before

-- if a line records no reply, the recorded replies are those recorded before it
silent_line_splits_told : (n : ℕ) (numbered_told : List (Numbered AccountAttempt)) (numbers : List ℕ) (before : List AccountAttempt)
    → numbers_of numbered_told ≡ numbers ++ [] → of_number n numbered_told ≡ before ++ [] → ToldBefore n numbered_told numbers before []
silent_line_splits_told n numbered_told numbers before order mine =
    record {
      earlier = numbered_told;
      same = sym (append-nil numbered_told);
      order = order ∙ append-nil numbers;
      mine = mine ∙ append-nil before;
    }

-- of a list with one reply of this number, the number's replies are this one
of_number-one_reply : (n : ℕ) (m : Numbered AccountAttempt) → m.number ≡ n → of_number n (m ∷ []) ≡ m.value ∷ []
of_number-one_reply n m same = rw (eq-eqb n m.number (sym same)) refl

-- if a line records one reply, the recorded replies are those recorded before it and then a last one, which is this one
last_reply_splits_told : (n : ℕ) (t : AccountAttempt) (front : List (Numbered AccountAttempt)) (last : Numbered AccountAttempt)
    (numbers : List ℕ)
    (before : List AccountAttempt)
    → numbers_of (front ++ last ∷ []) ≡ numbers ++ n ∷ [] → of_number n (front ++ last ∷ []) ≡ before ++ t ∷ []
    → ToldBefore n (front ++ last ∷ []) numbers before (t ∷ [])
last_reply_splits_told n t front last numbers before order mine =
    let ends = same_from_push (numbers_of front) numbers last.number n
    (sym (map-append (λ (m : Numbered AccountAttempt). m.number) front (last ∷ [])) ∙ order) in
    let told = sym (of_number-append n front (last ∷ []) ∙ ap (λ (l : List AccountAttempt). of_number n front ++ l)
    (of_number-one_reply n last ends.1)) ∙ mine in
    let also = same_from_push (of_number n front) before last.value t told in
    record {
      earlier = front;
      same = ap (λ (m : Numbered AccountAttempt). front ++ m ∷ []) (equal_parts_are_same_numbered last.number n last.value t ends.1 also.1);
      order = ends.0;
      mine = also.0;
    }

-- if a line records one reply, the recorded replies are those recorded before it, then this one
reply_splits_told : (n : ℕ) (t : AccountAttempt) (numbered_told : List (Numbered AccountAttempt)) (numbers : List ℕ)
    (before : List AccountAttempt)
    → numbers_of numbered_told ≡ numbers ++ n ∷ []
    → of_number n numbered_told ≡ before ++ t ∷ [] → ToldBefore n numbered_told numbers before (t ∷ [])
reply_splits_told n t [] numbers before order mine = absurd (empty_has_no_last numbers n (sym order))
reply_splits_told n t (m ∷ numbered_told) numbers before order mine =
    let last = nonempty_has_last m numbered_told in
    let found = last_reply_splits_told n t last.0 last.1 numbers before
    (subst (λ (l : List (Numbered AccountAttempt)). numbers_of l ≡ numbers ++ n ∷ []) last.2 order)
    (subst (λ (l : List (Numbered AccountAttempt)). of_number n l ≡ before ++ t ∷ []) last.2 mine) in
    subst (λ (l : List (Numbered AccountAttempt)). ToldBefore n l numbers before (t ∷ [])) (sym last.2) found

-- the recorded replies are those recorded before a line, then the one that the line records
pub line_splits_told : (n : ℕ) (place : Place) (line : LogLine) (numbered_told : List (Numbered AccountAttempt)) (numbers : List ℕ)
    (before : List AccountAttempt) → TellsOfReply place line
    → numbers_of numbered_told ≡ numbers ++ reply_numbers (numbered n line ∷ []) → of_number n numbered_told ≡ before ++ told_at place line
    → ToldBefore n numbered_told numbers before (told_at place line)
line_splits_told n place line numbered_told numbers before (inl none) order mine =
    let numbers_are = rw none.1 at order in
    let told = rw none.0 at mine in
    subst (λ (t : List AccountAttempt). ToldBefore n numbered_told numbers before t) (sym none.0)
    (silent_line_splits_told n numbered_told numbers before numbers_are told)
line_splits_told n place line numbered_told numbers before (inr one) order mine =
    let numbers_are = rw one.2 at order in
    let told = rw one.1 at mine in
    subst (λ (t : List AccountAttempt). ToldBefore n numbered_told numbers before t) (sym one.1)
    (reply_splits_told n one.0 numbered_told numbers before numbers_are told)
