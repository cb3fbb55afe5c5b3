use Rattle.scram_text.proofs.lemmas.AttrVals.{attribute_iff_extension}
use Rattle.scram_text.proofs.cut.is_extension.Goals as goal

pub returns : goal.returns
returns c = rw c.is_attribute.ensures (attribute_iff_extension c.args.part.now c.requires)
