use Rattle.std.proofs.Common.{inr, [], refl}
use Rattle.scram_text.specs.Messages.{ClientFinalParts}
use Rattle.scram_text.specs.Written.{client_final_of}
use Rattle.scram_ends.proofs.stateless.verdict_on.Goals as goal

pub returns-in-Some : goal.returns-in-Some
returns-in-Some g c = λ login opening shows is.
    let final : ClientFinalParts = client_final_of c.args.first.now.header.now c.args.nonce.now [] c.in-Some.proof.items in
    inr (record {
      opening = opening;
      final = final;
      is_opening = is;
      is_final = c.in-Some.ensures.is;
      is_verdict = c.judge_proof.ensures login opening final c.args.nonce.now shows
          (record { not_mandatory = refl; nonce = shows.sent; channel = shows.shows.header }) c.in-Some.ensures.front refl;
    })
