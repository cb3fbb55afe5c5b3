use Rattle.std.proofs.Common.{◌≡◌, ◌++◌, drop, Ok}
use Rattle.toml.specs.View.{items_view}
use Rattle.book_format.specs.inner.Values.{names_in}
use Rattle.book_format.specs.inner.Steps.{◌>>=◌}
use Rattle.book_format.proofs.read.accounts.names_in.Given as goal

-- the names so far, and those that are left
abbrev pub invariant-loop-value : goal.invariant-loop-value
invariant-loop-value l =
    (names_in (items_view (drop l.value-index l.list)) >>= λ left. Ok (l.names.items ++ left)) ≡ names_in (items_view l.list)
