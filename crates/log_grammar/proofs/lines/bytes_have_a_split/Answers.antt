use Rattle.scram_text.proofs.lemmas.SplitLines.{some_split}
use Rattle.log_grammar.proofs.lines.bytes_have_a_split.Goals as goal

pub returns : goal.returns
returns c = some_split
