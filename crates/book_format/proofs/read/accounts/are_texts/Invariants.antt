use Rattle.std.proofs.Common.{◌≡◌, drop}
use Rattle.toml.specs.View.{items_view}
use Rattle.book_format.specs.Names.{are_texts}
use Rattle.book_format.proofs.read.accounts.are_texts.Given as goal

-- all values are texts if and only if those that are left are
abbrev pub invariant-loop-value : goal.invariant-loop-value
invariant-loop-value l = are_texts (items_view (drop l.value-index l.list)) ≡ are_texts (items_view l.list)
