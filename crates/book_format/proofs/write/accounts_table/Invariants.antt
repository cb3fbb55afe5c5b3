use Rattle.std.proofs.Common.{◌≡◌, ℕ, List, ◌++◌}
use Rattle.toml.specs.View.{table_view}
use Rattle.book_format.specs.Account.{AccountFields}
use Rattle.book_format.specs.Trees.{AreAccountTrees}
use Rattle.book_format.specs.Written.{accounts_tree}
use Rattle.book_format.proofs.write.accounts_table.Given as goal

-- the table has the accounts that were given, and its tree is theirs
abbrev pub invariant-loop-name : goal.invariant-loop-name
invariant-loop-name l =
    (done : List (List ℕ × AccountFields)) × (l.accounts.entries ≡ done ++ l.name-iterator) × (table_view l.table ≡ accounts_tree done)
    × AreAccountTrees (accounts_tree done) done
