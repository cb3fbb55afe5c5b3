-- Which books a run leaves in its store, wherever it ends.
use Rattle.std.proofs.Common.{◌⊎◌, inl, inr, ℕ, List, [], ◌∷◌, reverse, refl, sym, ◌∙◌, subst}
use Rattle.account_book.specs.{BookFields, IsBookText}
use Rattle.account_book.specs.SavedBooks.{SavesBook, HoldsAfterAttempts, LeavesOldTextOrBook}
use Rattle.account_book.specs.Store.{StoreFacts, MayHold}
use Rattle.account_book.specs.AccountAttempt.{AccountAttempt}
use Rattle.account_book.specs.Tokens.{IsBookAfterAttempts}
use Rattle.command_io.specs.{FailsToSave}
use Rattle.command_io.specs.HeldBook.{HeldFacts, FailsToChange, HoldsItsBook}
use Rattle.command_line.specs.declared.fault.Fault.{Fault}
use Rattle.sasl_desk.specs.Faults.{IsNotBegun}
use Rattle.sasl_desk.specs.Saved.{IsToldSaved}
use Rattle.sasl_desk.specs.declared.fault.DeskFault.{DeskFault}
use Rattle.sasl_desk.specs.declared.fault.DeskFault.TheVariants.{Halted, Unwritable, NoNumber, NoMemory}
use Rattle.commands.proofs.lemmas.Attempts.{held_text_is_of_book, saved_book_is_held, store_was_unasked_or_failed}

-- a save that fails leaves a text that the store may have held, or one of the book that it was given
pub failed_save_leaves_old_or_book : (old : StoreFacts) (book : BookFields) (new : StoreFacts) → FailsToSave old book new
    → LeavesOldTextOrBook old book new
failed_save_leaves_old_or_book old book new fails text may = elim fails.lost [
  | inl (failed, same) ↦ inl (subst (λ (s : StoreFacts). MayHold s text) same may)
  | inr lost ↦ elim may [
    | inl is ↦ elim lost.saved [
      | inl kept ↦ inl (inl (is ∙ kept))
      | inr put ↦ inr (subst (λ (t : List ℕ). IsBookText t book) (sym (is ∙ put)) fails.is_text)
    ]
    | inr (failed, is) ↦ inr (subst (λ (t : List ℕ). IsBookText t book) (sym (is ∙ lost.begun.asked)) fails.is_text)
  ]
]

-- a change that a held book fails to make leaves a text of the book, or of one that the change makes of it
pub failed_change_leaves_old_or_changed : (old : HeldFacts) (Changes : BookFields → BookFields → Type 0) (fault : Fault) (new : HeldFacts)
    → FailsToChange old Changes fault new → HoldsItsBook old → (text : List ℕ) → MayHold new.store text
    → IsBookText text old.book ⊎ ((next : BookFields) × Changes old.book next × IsBookText text next)
failed_change_leaves_old_or_changed old Changes fault new fails holds text may =
    elim (store_was_unasked_or_failed old Changes fault new.store fails.1) [
      | inl same ↦ inl (held_text_is_of_book old text holds (subst (λ (s : StoreFacts). MayHold s text) same may))
      | inr (next, changed, unsaved) ↦ elim (failed_save_leaves_old_or_book old.store next new.store unsaved text may) [
        | inl before ↦ inl (held_text_is_of_book old text holds before)
        | inr is_text ↦ inr (next, changed, is_text)
      ]
    ]

-- a desk or a hall that has not begun leaves a text that the store may have held, or one of its book
pub unbegun_leaves_old_or_book : (old : StoreFacts) (book : BookFields) (fault : DeskFault) (new : StoreFacts)
    → IsNotBegun old book fault new → LeavesOldTextOrBook old book new
unbegun_leaves_old_or_book old book NoMemory new same = λ text may. inl (subst (λ (s : StoreFacts). MayHold s text) same may)
unbegun_leaves_old_or_book old book Halted new fails = failed_save_leaves_old_or_book old book new fails
unbegun_leaves_old_or_book old book Unwritable new never = absurd never
unbegun_leaves_old_or_book old book NoNumber new never = absurd never

-- a save that succeeds leaves a text of the book
pub done_save_leaves_book : (IsStored : List ℕ → Type 0) (old : StoreFacts) (book : BookFields) (new : StoreFacts)
    → SavesBook IsStored old book new → (text : List ℕ) → MayHold new text → IsBookText text book
done_save_leaves_book IsStored old book new saves text may =
    let was : HeldFacts = record { book = book; store = old } in
    let is : HeldFacts = record { book = book; store = new } in
    held_text_is_of_book is text (saved_book_is_held IsStored was is saves) may

-- what is left of a book that was held, if nothing but the book itself was saved, is this book
pub held_book_leaves_no_reply : (held : HeldFacts) (new : StoreFacts) → LeavesOldTextOrBook held.store held.book new → HoldsItsBook held
    → HoldsAfterAttempts held.book new
held_book_leaves_no_reply held new left holds text may = (
  held.book,
  [],
  refl,
  elim (left text may) [
    | inl before ↦ held_text_is_of_book held text holds before
    | inr is_text ↦ is_text
  ],
)

-- replies that are saved lead to each book of which the store may hold a text, perhaps with one more
pub saved_replies_leave_book : {IsStored : List ℕ → Type 0} {start : BookFields} {told : List AccountAttempt} {store : StoreFacts}
    → IsToldSaved IsStored start told store → HoldsAfterAttempts start store
saved_replies_leave_book {start = start} {told = told} saved text may =
    let (left, leaves, is_text) = saved.held text may in elim leaves [
      | inl same ↦ (
        left,
        reverse told,
        subst (λ (b : BookFields). IsBookAfterAttempts start (reverse told) b) (sym same) saved.is_last,
        is_text,
      )
      | inr (attempt, one) ↦ (left, attempt ∷ reverse told, (saved.last, saved.is_last, one), is_text)
    ]
