use Rattle.std.proofs.Common.{sym, ◌∙◌}
use Rattle.scram_ends.proofs.stateless.judge_parts.Goals as goal

pub returns : goal.returns
returns g c = λ login opening final shows parts.
    let channel = c.are_same-2.ensures.0 c.if-not-are_same-2.false in
    c.judge_proof.ensures login opening final c.args.nonce.now shows
    (record {
      not_mandatory = sym parts.mandatory ∙ c.if-parts.false;
      nonce = sym parts.nonce ∙ (c.are_same.ensures.0 c.if-not-are_same.false ∙ shows.sent);
      channel = sym parts.channel ∙ (sym c.as_slice.ensures.value ∙ (channel ∙ shows.shows.header));
    })
    parts.without_proof parts.proof
