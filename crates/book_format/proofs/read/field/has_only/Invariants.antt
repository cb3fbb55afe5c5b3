use Rattle.std.proofs.Common.{◌≡◌}
use Rattle.std.specs.List.{list_any}
use Rattle.std.specs.Str.{bytes_eq}
use Rattle.toml.specs.View.{members_view}
use Rattle.book_format.specs.Keys.{has_only}
use Rattle.book_format.proofs.read.field.has_only.Given as goal

-- all keys are known if and only if those that are left are
abbrev pub invariant-loop-key : goal.invariant-loop-key
invariant-loop-key l =
    has_only (λ key. list_any (λ k. bytes_eq k.now key) l.keys) (members_view l.key-iterator)
    ≡ has_only (λ key. list_any (λ k. bytes_eq k.now key) l.keys) (members_view l.table.entries)
