use Rattle.std.proofs.Common.{ℕ, List, ◌++◌, take}
use Rattle.scram_text.specs.Name.{name_spelling}
use Rattle.scram_text.specs.Draft.{IsDraftOf}
use Rattle.scram_text.proofs.draft.Draft.add_spelling.Given as goal

-- the spelling of the bytes so far follows each text
abbrev pub invariant-loop-byte : goal.invariant-loop-byte
invariant-loop-byte g l =
    (text : List ℕ) → IsDraftOf l.fn.self text → IsDraftOf l.self (text ++ name_spelling (take l.byte-index l.name))
