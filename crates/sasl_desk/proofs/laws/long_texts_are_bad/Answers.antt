use Rattle.sasl_desk.proofs.lemmas.turns.HeardLines.{long_texts_are_bad}
use Rattle.sasl_desk.proofs.laws.long_texts_are_bad.Goals as goal

pub returns : goal.returns
returns c = long_texts_are_bad
