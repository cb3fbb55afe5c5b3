use Rattle.std.proofs.Common.{◌≡◌, ℕ, List, length, drop, ap, arith}
use Rattle.scram_text.specs.Name.{LacksComma}
use Rattle.scram_text.proofs.lemmas.Parts.{text_without_comma_is_one_part}
use Rattle.scram_text.proofs.cut.cut_last.Goals as goal

-- a text without a comma from its start on has no comma
whole_lacks_comma : (text : List ℕ) (at : ℕ) → at ≡ 0 → LacksComma (drop at text) → LacksComma text
whole_lacks_comma text at none lacks = rw none at lacks

pub returns-clause-whole : goal.returns-clause-whole
returns-clause-whole c =
    ap length (text_without_comma_is_one_part c.args.text.now (whole_lacks_comma c.args.text.now c.loop-at.at (omega arith)
    c.loop-at.invariant.no_comma))
