use Rattle.std.proofs.Common.{◌≡◌, ◌+◌, ◌++◌, List, Ok, length}
use Rattle.toml.specs.View.{members_view}
use Rattle.toml.proofs.Views.{Entry}
use Rattle.book_format.specs.inner.Books.{accounts_from}
use Rattle.book_format.specs.inner.Steps.{◌>>=◌}
use Rattle.book_format.proofs.lemmas.InOrder.{HaveKeys}
use Rattle.book_format.proofs.read.accounts.accounts_from.Given as goal

-- the accounts so far, and those that are left
abbrev pub invariant-loop-key : goal.invariant-loop-key
invariant-loop-key l =
    (done : List Entry)
    × (l.table.entries ≡ done ++ l.key-iterator)
    × HaveKeys l.accounts.entries done
    × ((accounts_from l.index (members_view l.key-iterator) >>= λ left. Ok (l.accounts.entries ++ left))
    ≡ accounts_from 0 (members_view l.table.entries))
    × (l.index + length l.key-iterator ≡ length l.table.entries)
