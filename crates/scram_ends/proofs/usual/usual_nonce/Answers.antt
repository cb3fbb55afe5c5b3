use Rattle.std.proofs.Common.{◌∙◌, ap, sym, arith}
use Rattle.std.specs.Prelude.{◌++◌, length}
use Rattle.std.proofs.lemmas.Bool.{eqb-false}
use Rattle.scram_text.specs.Limits.{max_salt_len}
use Rattle.scram_text.specs.Base64Field.{IsField}
use Rattle.scram_text.proofs.lemmas.Base64.{bytes_are_field}
use Rattle.scram_ends.proofs.lemmas.Usual.{pieces_are_challenge}
use Rattle.scram_ends.proofs.usual.usual_nonce.Goals as goal

pub returns-then-is_nonce : goal.returns-then-is_nonce
returns-then-is_nonce c =
    let field : IsField max_salt_len c.args.salt.now =
    bytes_are_field max_salt_len c.args.salt.now c.law_of_bytes.ensures (omega (arith, eqb-false (length c.args.salt.now) 0 (sym c.is_empty.ensures ∙ c.if-is_empty.false))) (omega arith) in
    pieces_are_challenge c.args.salt.now c.args.client.now c.in_ok-nonce.nonce.now c.args.server_first.now c.in_ok-rest.rest.now
    c.tail.result.items c.args.count c.in_ok-rest.ensures
    (c.in_ok-nonce.ensures ∙ ap (λ t. c.in_ok-nonce.nonce.now ++ t) c.as_slice.ensures.value) c.tail.ensures field (omega arith)
    (omega (arith, c.ranges.count.fits)) (c.is_nonce.ensures.0 c.if-is_nonce.true) (c.extends_nonce.ensures.0 c.if-extends_nonce.true)
