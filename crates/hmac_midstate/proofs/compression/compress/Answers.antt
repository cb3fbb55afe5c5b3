use Rattle.hmac_midstate.proofs.lemmas.Blocks.{compressed_by_1, compressed_by_256}
use Rattle.hmac_midstate.proofs.compression.compress.Goals as goal

pub returns-in-ScramSha1 : goal.returns-in-ScramSha1
returns-in-ScramSha1 c =
    compressed_by_1 c.args.mechanism c.args.words.now _ _ c.args.block.now c.in-ScramSha1.is c.schedule.ensures c.add_rounds.ensures

pub returns-in-ScramSha256 : goal.returns-in-ScramSha256
returns-in-ScramSha256 c =
    compressed_by_256 c.args.mechanism c.args.words.now _ _ c.args.block.now c.in-ScramSha256.is c.schedule-in-ScramSha256.ensures
    c.add_rounds-in-ScramSha256.ensures
