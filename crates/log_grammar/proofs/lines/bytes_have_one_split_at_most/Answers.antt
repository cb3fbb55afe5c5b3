use Rattle.scram_text.proofs.lemmas.SplitLines.{one_split}
use Rattle.log_grammar.proofs.lines.bytes_have_one_split_at_most.Goals as goal

pub returns : goal.returns
returns c = one_split
