use Rattle.std.proofs.Common.{◌≡◌, ap, ◌∙◌, refl}
use Rattle.scram_text.specs.Messages.{ClientFirstParts}
use Rattle.scram_text.proofs.lemmas.ClientFirst.{has_one_client_first}
use Rattle.scram_ends.specs.Opening.{Opening}
use Rattle.scram_ends.proofs.server.ServerWait.recorded_with.Goals as goal

pub returns-then-not-is_challenge_to-clause-err : goal.returns-then-not-is_challenge_to-clause-err
returns-then-not-is_challenge_to-clause-err c =
    let taken = c.in_ok-taken.ensures.ok in
    let client_first = c.args.client_first.now in (
      (taken.0, c.in_ok-taken.taken.name, c.in_ok-taken.taken.authzid, taken.1, taken.2.taken_up),
      λ o is. let nonce : c.in_ok-taken.taken.nonce.now ≡ o.first.nonce =
          taken.2.nonce ∙ ap (λ (p : ClientFirstParts). p.nonce) (has_one_client_first client_first taken.0 o.first taken.1 is.is_first) in
          c.if-not-is_challenge_to.ensures.not client_first c.args.server_first.now o nonce
          (c.in-Ok.ensures.every o.challenge is.is_challenge) is,
    )

pub returns-clause-ok : goal.returns-clause-ok
returns-clause-ok c =
    let taken = c.in_ok-taken.ensures.ok in
    let found = c.in-Ok.ensures.found in
    let o : Opening = record {
      first = taken.0;
      name = c.in_ok-taken.taken.name;
      authzid = c.in_ok-taken.taken.authzid;
      challenge = found.0;
    } in
    let is_opening = c.if-not-is_challenge_to.ensures.opens c.args.client_first.now c.args.server_first.now o taken.1 taken.2.taken_up
    found.1 taken.2.nonce found.2 in
    c.wait_for.ensures c.args.mechanism c.args.client_first.now c.args.server_first.now o is_opening
    (record { header = taken.2.header; bare = taken.2.bare; name = refl; authzid = refl; nonce = found.2.nonce })
    (c.signing_for-signing.ensures taken.0 taken.2.bare)
