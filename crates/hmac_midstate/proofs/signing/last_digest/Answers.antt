use Rattle.std.proofs.Common.{ℕ, ◌+◌, ◌*◌, [], length, refl, ◌∙◌}
use Rattle.hmac_midstate.proofs.lemmas.Blocks.{absorbed_last}
use Rattle.hmac_midstate.proofs.signing.last_digest.Goals as goal

pub returns : goal.returns
returns c = record {
  value = λ message held.
      let bits : ℕ = (c.args.before + length c.args.text.now) * 8 in
      c.digest.ensures.value
      ∙ absorbed_last c.args.mechanism c.args.words _ [] message c.args.text.now c.last_block-block.result.items c.args.before bits held
      c.requires.most c.requires.whole c.requires.short refl c.last_block-block.ensures.value c.last_block-block.ensures.len
      (rw c.as_slice.ensures.value at c.compress.ensures);
  len = c.digest.ensures.len;
}
