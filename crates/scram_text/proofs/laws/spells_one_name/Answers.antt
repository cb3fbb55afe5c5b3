use Rattle.std.proofs.Common.{sym, ◌∙◌}
use Rattle.scram_text.proofs.lemmas.Names.{one_name_per_spelling}
use Rattle.scram_text.proofs.laws.spells_one_name.Goals as goal

pub returns : goal.returns
returns c = λ one other spelled is also. one_name_per_spelling one other (sym is ∙ also)
