use Rattle.scram_ends.proofs.lemmas.Usual.{rest_after_front}
use Rattle.scram_ends.proofs.usual.after.Goals as goal

pub returns : goal.returns
returns c = rest_after_front c.args.text.now c.args.front.now c.strip_prefix.result c.strip_prefix.ensures.cases
