use Rattle.std.proofs.Common.{length}
use Rattle.std.specs.Option.{option_copied}
use Rattle.scram_text.specs.Parts.{parts, parts_of_some}
use Rattle.scram_text.proofs.lemmas.Extensions.{RestShowsAll}
use Rattle.scram_text.proofs.cut.check_extensions.Given as goal

-- what is true of the extensions that are left is true of all
abbrev pub invariant-loop-left : goal.invariant-loop-left
invariant-loop-left l =
    RestShowsAll l.first (parts l.fn.text) l.index l.mandatory (parts_of_some (option_copied l.left))

abbrev pub decreases-loop-left : goal.decreases-loop-left
decreases-loop-left l = length (parts_of_some (option_copied l.left))
