use Rattle.std.proofs.Common.{ap, inl, inr, sym, subst}
use Rattle.std.specs.Result.{result_ok}
use Rattle.std.specs.Option.{unwrap_or}
use Rattle.book_format.specs.Trees.{IsBookText}
use Rattle.account_book.proofs.laws.written_is_read.Goals as goal

pub returns-in-Ok : goal.returns-in-Ok
returns-in-Ok c =
    elim (c.in-Ok.ensures.every c.args.book.now
    (subst (λ text. IsBookText text c.args.book.now) (sym c.as_bytes.ensures.value) c.in_ok-text.ensures.is_text)) [
      | inl same ↦ ap (λ r. unwrap_or (result_ok r) c.in-Ok.read) same
      | inr fault ↦ absurd fault
    ]
