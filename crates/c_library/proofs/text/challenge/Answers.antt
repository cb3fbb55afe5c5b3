use Rattle.c_library.proofs.text.challenge.Goals as goal
use Rattle.c_library.proofs.lemmas.Challenges.{composed_is_challenge}
use Rattle.std.proofs.Common.{rules, ◌≡◌, ◌++◌, arith}
use Rattle.std.specs.Prelude.{codes, decimal}
use Rattle.base64.specs.GeneralPurpose.{IsBytes}
use Rattle.scram_text.specs.Base64Field.{base64}

pub returns : goal.returns
returns c =
    let salt : IsBytes c.args.salt.now = rw c.bytes.ensures.value at c.law_of_bytes.ensures in
    let text : c.add-6.new.text.items ≡ ((((((codes "r=" ++ c.args.nonce.now) ++ c.args.server_nonce.now) ++ codes ",s=")
    ++ base64 c.args.salt.now) ++ codes ",i=") ++ decimal c.args.count) = search rules in
    composed_is_challenge c.args.nonce.now c.args.server_nonce.now c.args.salt.now c.args.count _ text c.requires.nonce
    c.bytes-2.ensures.fits salt c.bytes.ensures.fits c.requires.count (omega (arith, c.ranges.count.fits))
