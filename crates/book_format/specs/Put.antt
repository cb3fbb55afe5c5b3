-- Keys put into a table one by one.
use Rattle.std.specs.Prelude.{ℕ, List, [], ◌∷◌, Option, Some, None}
use Rattle.std.specs.Ordering.{nat_cmp, match_ordering}
use Rattle.std.specs.Cmp.Lexicographic.{slice_cmp}
use Rattle.toml.specs.Data.{Data, Members, no_members, member}

-- the members with this value put in at a key, in byte order of their keys
abbrev pub put_member : List ℕ → Data → Members → Members
put_member key value no_members = member key value no_members
put_member key value (member k d rest) =
    match_ordering (slice_cmp nat_cmp key k) (member key value (member k d rest)) (member k value rest)
    (member k d (put_member key value rest))

-- the members with the value put in at a key if there is a value, else unchanged
abbrev pub put_some : List ℕ → Option Data → Members → Members
put_some key None members = members
put_some key (Some value) members = put_member key value members

-- the members with the values of a list put in, each at its key
abbrev pub put_all : List (List ℕ × Option Data) → Members → Members
put_all [] members = members
put_all (entry ∷ entries) members = put_all entries (put_some entry.0 entry.1 members)
