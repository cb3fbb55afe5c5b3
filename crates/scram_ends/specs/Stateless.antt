-- A login that is judged in one call, from an entry in parts.
use Rattle.std.specs.Prelude.{ℕ, List}
use Rattle.std.specs.declared.option.Option.{Option}
use Rattle.scram_ends.specs.Entry.{Keys, Entry}
use Rattle.scram_ends.specs.Stages.{Challenged, challenged_login}
use Rattle.scram_ends.specs.declared.stateless.EntryParts.{EntryParts}

-- the entry of these parts, if its other names and its keys are these
abbrev pub entry_of_parts : {K N : Type 0} → EntryParts K N → (names : List (List ℕ)) → (held : Option Keys) → Entry
entry_of_parts e names held = record { salt = e.salt.now; count = e.count; keys = held; act_as = names }

-- the login of that entry, with these two messages
abbrev pub login_of_parts : {K N : Type 0} → EntryParts K N → (names : List (List ℕ)) → (held : Option Keys)
    → (client_first server_first : List ℕ) → Challenged
login_of_parts e names held client_first server_first =
    challenged_login (entry_of_parts e names held) e.mechanism client_first server_first
