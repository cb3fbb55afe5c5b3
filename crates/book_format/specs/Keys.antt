-- The keys of a table.
use Rattle.std.specs.Prelude.{ℕ, List, Bool, true, ◌&&◌}
use Rattle.std.specs.List.{list_any}
use Rattle.std.specs.Str.{bytes_eq}
use Rattle.toml.specs.Data.{Members, no_members, member}

-- whether a key is one of these
abbrev pub is_among : List (List ℕ) → List ℕ → Bool
is_among keys key = list_any (λ k. bytes_eq k key) keys

-- whether each key of a table passes a test
unfoldable pub has_only : (List ℕ → Bool) → Members → Bool
has_only is_known no_members = true
has_only is_known (member key d ms) = is_known key && has_only is_known ms
