use Rattle.std.proofs.Common.{subst}
use Rattle.book_format.specs.Trees.{IsBookTree}
use Rattle.book_format.specs.Written.{book_tree}
use Rattle.book_format.proofs.lemmas.WritesItself.{book_writes_itself}
use Rattle.book_format.proofs.write.book_table.Goals as goal

pub returns-clause-stands : goal.returns-clause-stands
returns-clause-stands c =
    subst (λ b. IsBookTree (book_tree b) b) c.book.view_is
    (book_writes_itself _ c.book.invariant c.put_decoy_key.ensures.len c.put_decoy_key.ensures.back c.in_ok-accounts_table.ensures.stands)
