use Rattle.std.proofs.Common.{◌≡◌, take}
use Rattle.scram_text.specs.Name.{name_spelling}
use Rattle.scram_ends.proofs.client.begin.spelling.Given as goal

-- the text is the spelling of the bytes so far
abbrev pub invariant-loop-byte : goal.invariant-loop-byte
invariant-loop-byte l = l.text.items ≡ name_spelling (take l.byte-index l.name)
