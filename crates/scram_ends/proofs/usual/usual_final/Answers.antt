use Rattle.std.proofs.Common.{◌∙◌, ap, sym, arith}
use Rattle.std.specs.Prelude.{◌++◌, length}
use Rattle.std.proofs.lemmas.Bool.{eqb-false}
use Rattle.scram_ends.proofs.lemmas.Usual.{pieces_are_client_final, cut_is_without_proof}
use Rattle.scram_ends.proofs.usual.usual_final.Goals as goal

pub returns-clause-is : goal.returns-clause-is
returns-clause-is c =
    pieces_are_client_final c.args.header.now c.args.nonce.now c.in_ok-proof.proof.items c.args.client_final.now c.front-front.result.items
    c.in_ok-rest.rest.now c.in_ok-rest-2.rest.now c.in_ok-after.field-0.now c.front-front.ensures
    (c.in_ok-rest.ensures ∙ ap (λ t. t ++ c.in_ok-rest.rest.now) c.as_slice.ensures.value) c.in_ok-rest-2.ensures c.in_ok-after.ensures
    c.in_ok-proof.ensures.spelled c.law_of_bytes.ensures (omega (arith, eqb-false (length c.args.header.now) 0 (sym c.is_empty.ensures ∙ c.if-is_empty.false))) (omega arith) c.requires
    c.in_ok-proof.ensures.field

pub returns-clause-front : goal.returns-clause-front
returns-clause-front c =
    cut_is_without_proof c.args.header.now c.args.nonce.now c.in_ok-proof.proof.items c.args.client_final.now c.front-front.result.items
    c.in_ok-rest.rest.now c.in_ok-rest-2.rest.now _ c.front-front.ensures
    (c.in_ok-rest.ensures ∙ ap (λ t. t ++ c.in_ok-rest.rest.now) c.as_slice.ensures.value) c.in_ok-rest-2.ensures (omega arith)
