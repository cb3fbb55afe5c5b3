use Rattle.scram_text.proofs.lemmas.PartsUtf8.{parts_are_utf8}
use Rattle.scram_text.proofs.laws.parts_are_utf8.Goals as goal

pub returns : goal.returns
returns c = parts_are_utf8
