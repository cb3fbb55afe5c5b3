use Rattle.std.proofs.Common.{◌↔◌, length}
use Rattle.std.specs.Option.{option_copied}
use Rattle.scram_text.specs.Parts.{parts, parts_of_some, AreExtensions}
use Rattle.scram_text.proofs.cut.are_attributes.Given as goal

-- all parts are extensions if and only if the rest are
abbrev pub invariant-loop-left : goal.invariant-loop-left
invariant-loop-left l = AreExtensions (parts_of_some (option_copied l.left)) ↔ AreExtensions (parts l.fn.text)

abbrev pub decreases-loop-left : goal.decreases-loop-left
decreases-loop-left l = length (parts_of_some (option_copied l.left))
