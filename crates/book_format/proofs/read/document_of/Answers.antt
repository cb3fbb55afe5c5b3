use Rattle.std.proofs.Common.{inl, inr, refl}
use Rattle.std.proofs.lemmas.Bool.{cases_Bool, false≢true}
use Rattle.std.proofs.lemmas.Str.{IsUtf8-from_is_utf8, is_utf8-from_IsUtf8}
use Rattle.std.specs.Str.{is_utf8}
use Rattle.toml.specs.Errors.{IsMemory}
use Rattle.book_format.specs.inner.Books.{tree_in}
use Rattle.book_format.proofs.read.document_of.Goals as goal

pub returns-in-Ok : goal.returns-in-Ok
unfolding tree_in
returns-in-Ok c =
    let read = c.in-Ok.ensures.ok in
    rw (is_utf8-from_IsUtf8 c.args.bytes.now read.0, read.1) refl

pub returns-else-is_memory : goal.returns-else-is_memory
unfolding tree_in
returns-else-is_memory c =
    let other : IsMemory c.in-Err.e → ⊥ = λ memory. false≢true (c.if-is_memory.ensures.1 memory) in
    inr (elim (cases_Bool (is_utf8 c.args.bytes.now)) [
      | inl is ↦ rw (is, c.in-Err.ensures.refused other (IsUtf8-from_is_utf8 c.args.bytes.now is)) refl
      | inr not ↦ rw not refl
    ])
