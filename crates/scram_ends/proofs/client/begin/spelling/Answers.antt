use Rattle.std.proofs.Common.{◌≡◌, length, take, ap, arith}
use Rattle.std.proofs.lemmas.List.{length-take-le}
use Rattle.scram_text.proofs.lemmas.Names.{length-spelling}
use Rattle.scram_ends.proofs.client.begin.spelling.Goals as goal

pub add_escaped-requires : goal.add_escaped-requires
add_escaped-requires c =
    let same : length c.bytes-byte-items.result.now ≡ length c.args.name.now = ap length c.bytes-byte-items.ensures.value in
    omega (
      arith,
      same,
      ap length c.loop-byte.invariant,
      length-spelling (take c.loop-byte.byte-index c.args.name.now),
      length-take-le c.loop-byte.byte-index c.args.name.now (omega (arith, same)),
      c.bytes-byte-items.ensures.fits.at_most,
      c.loop-byte-test.true,
    )
