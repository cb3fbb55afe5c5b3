use Rattle.std.proofs.Common.{inl, inr, ℕ, List, refl, reverse, sym, subst}
use Rattle.std.proofs.lemmas.List.{reverse-reverse}
use Rattle.account_book.specs.{IsBookText}
use Rattle.account_book.specs.AccountAttempt.{AccountAttempt}
use Rattle.account_book.specs.Tokens.{IsBookAfterAttempts}
use Rattle.command_io.specs.HeldBook.{IsEnrolled, IsTokenUnlocked}
use Rattle.commands.proofs.lemmas.Attempts.{held_text_is_of_book, replies_are_changes}
use Rattle.commands.proofs.lemmas.LeftBooks.{done_save_leaves_book, failed_change_leaves_old_or_changed, failed_save_leaves_old_or_book}
use Rattle.commands.proofs.laws.runs_leave_changed_books.Goals as goal

pub returns-clause-unlock : goal.returns-clause-unlock
returns-clause-unlock g c = λ name old fault new text fails holds may.
    elim (failed_change_leaves_old_or_changed old (IsTokenUnlocked name) fault new fails holds text may) [
      | inl is_text ↦ inl (old.book, refl, is_text)
      | inr (next, changed, is_text) ↦ inr (next, (old.book, refl, changed.1), is_text)
    ]

pub returns-clause-enrol : goal.returns-clause-enrol
returns-clause-enrol g c = λ account salts old fault new text fails holds may.
    elim (failed_change_leaves_old_or_changed old (IsEnrolled account salts) fault new fails holds text may) [
      | inl is_text ↦ inl (old.book, refl, is_text)
      | inr (next, changed, is_text) ↦ inr (next, (old.book, refl, changed), is_text)
    ]

pub returns-clause-added : goal.returns-clause-added
returns-clause-added g c = λ account salts old book new text fails holds changed may.
    elim (failed_save_leaves_old_or_book old.store book new fails text may) [
      | inl before ↦ inl (old.book, refl, held_text_is_of_book old text holds before)
      | inr is_text ↦ inr (book, (old.book, refl, changed), is_text)
    ]

pub returns-clause-failed : goal.returns-clause-failed
returns-clause-failed g c = failed_save_leaves_old_or_book

pub returns-clause-stopped : goal.returns-clause-stopped
returns-clause-stopped g c = λ old book asked text is_text may. elim may [
  | inl before ↦ inl before
  | inr same ↦ inr (subst (λ (t : List ℕ). IsBookText t book) (sym same) is_text)
]

pub returns-clause-done : goal.returns-clause-done
returns-clause-done g c = λ old book new text saves may. done_save_leaves_book g.S.BookStore.IsStored old book new saves text may

pub returns-clause-attempts : goal.returns-clause-attempts
returns-clause-attempts g c = λ start store text left may.
    let (book, latest_first, leads, is_text) = left text may in
    let again = subst (λ (l : List AccountAttempt). IsBookAfterAttempts start l book) (sym (reverse-reverse latest_first)) leads in
    let changes = replies_are_changes g.S.BookStore.facts g.S.BookStore.IsStored start (reverse (reverse latest_first)) book again in
    (reverse latest_first, (book, changes, is_text))
