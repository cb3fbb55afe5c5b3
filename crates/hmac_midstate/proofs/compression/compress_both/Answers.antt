use Rattle.hmac_midstate.proofs.lemmas.Blocks.{compressed_by_1, compressed_by_256}
use Rattle.hmac_midstate.proofs.compression.compress_both.Goals as goal

pub returns-in-ScramSha1 : goal.returns-in-ScramSha1
returns-in-ScramSha1 c = record {
  one = compressed_by_1 c.args.mechanism c.args.one.now _ _ c.args.block.now c.in-ScramSha1.is c.schedule-w.ensures c.add_rounds.ensures;
  other =
      compressed_by_1 c.args.mechanism c.args.other.now _ _ c.args.block.now c.in-ScramSha1.is c.schedule-w.ensures
      c.add_rounds-in-ScramSha1.ensures;
}

pub returns-in-ScramSha256 : goal.returns-in-ScramSha256
returns-in-ScramSha256 c = record {
  one =
      compressed_by_256 c.args.mechanism c.args.one.now _ _ c.args.block.now c.in-ScramSha256.is c.schedule-w-in-ScramSha256.ensures
      c.add_rounds-in-ScramSha256.ensures;
  other =
      compressed_by_256 c.args.mechanism c.args.other.now _ _ c.args.block.now c.in-ScramSha256.is c.schedule-w-in-ScramSha256.ensures
      c.add_rounds-in-ScramSha256-2.ensures;
}
