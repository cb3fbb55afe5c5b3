use Rattle.std.proofs.Common.{◌≡◌, length}
use Rattle.scram_text.specs.Name.{is_escaped}
use Rattle.scram_text.proofs.name.is_escaped.Given as goal

-- each escape is whole if and only if those of the rest are
abbrev pub invariant-loop-rest : goal.invariant-loop-rest
invariant-loop-rest l = is_escaped l.rest ≡ is_escaped l.fn.text

abbrev pub decreases-loop-rest : goal.decreases-loop-rest
decreases-loop-rest l = length l.rest
