use Rattle.scram_text.proofs.lemmas.NamesDecided.{name_is_decided}
use Rattle.scram_text.proofs.laws.name_is_decided.Goals as goal

pub returns : goal.returns
returns c = name_is_decided
