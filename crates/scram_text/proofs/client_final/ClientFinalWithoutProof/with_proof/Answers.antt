use Rattle.std.proofs.Common.{ℕ, List, subst, arith}
use Rattle.base64.specs.GeneralPurpose.{IsBytes}
use Rattle.scram_text.specs.Draft.{IsDraftOf}
use Rattle.scram_text.proofs.lemmas.messages_composed.ClientFinal.{pieces_compose_client_final, with_proof_is_client_final}
use Rattle.scram_text.proofs.client_final.ClientFinalWithoutProof.with_proof.Goals as goal

pub returns-clause-draft : goal.returns-clause-draft
returns-clause-draft c = λ p is same.
    subst (λ (text : List ℕ). IsDraftOf c.add_base64.new.self text)
    (pieces_compose_client_final p c.args.self.text.items c.args.proof.now is.held same)
    (c.add_base64.ensures _ (c.add.ensures _ c.of-draft.ensures))

pub returns-clause-is_message : goal.returns-clause-is_message
returns-clause-is_message c = λ p is same short.
    let bytes : IsBytes c.args.proof.now = λ i. omega (arith, c.type_inv.proof i) in
    with_proof_is_client_final c.args.self p c.args.proof.now is same bytes c.requires short
