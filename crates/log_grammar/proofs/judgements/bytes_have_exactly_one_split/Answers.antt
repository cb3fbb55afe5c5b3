use Rattle.scram_text.proofs.lemmas.SplitLines.{some_split, one_split}
use Rattle.log_grammar.proofs.judgements.bytes_have_exactly_one_split.Goals as goal

pub returns : goal.returns
returns c = λ bytes.
    let (texts, rest, cut) = some_split bytes in
    (texts, rest, cut, λ others other also. one_split bytes others texts other rest also cut)
