use Rattle.std.proofs.Common.{[]}
use Rattle.hmac_midstate.proofs.lemmas.Blocks.{reads_nothing}
use Rattle.hmac_midstate.proofs.signing.short_digest.Goals as goal

pub returns-clause-value : goal.returns-clause-value
returns-clause-value c =
    c.last_digest.ensures.value [] (reads_nothing c.args.mechanism c.initial.result [] c.initial.ensures)
