use Rattle.scram_ends.proofs.lemmas.Usual.{rest_before_end}
use Rattle.scram_ends.proofs.usual.before.Goals as goal

pub returns : goal.returns
returns c = rest_before_end c.args.text.now c.args.end.now c.strip_suffix.result c.strip_suffix.ensures.cases
