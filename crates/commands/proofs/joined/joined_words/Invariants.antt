use Rattle.std.proofs.Common.{◌≡◌, ◌++◌, length, map}
use Rattle.commands.specs.Joined.{joined}
use Rattle.commands.proofs.joined.joined_words.Given as goal

-- the words so far and those of the rest, joined, are those of the whole line, joined
abbrev pub invariant-loop-rest : goal.invariant-loop-rest
invariant-loop-rest g l =
    map (λ word. word.bytes.items) l.line.items ++ joined (map g.S.AsStr.text l.rest) ≡ joined (map g.S.AsStr.text l.fn.words)

abbrev pub decreases-loop-rest : goal.decreases-loop-rest
decreases-loop-rest g l = length l.rest
