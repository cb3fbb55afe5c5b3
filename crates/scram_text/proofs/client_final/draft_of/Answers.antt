use Rattle.std.proofs.Common.{ℕ, List, subst, arith}
use Rattle.base64.specs.GeneralPurpose.{IsBytes}
use Rattle.scram_text.specs.Draft.{IsDraftOf}
use Rattle.scram_text.proofs.lemmas.messages_composed.ClientFinal.{pieces_compose_without_proof, without_proof_is_text}
use Rattle.scram_text.proofs.client_final.draft_of.Goals as goal

pub returns-clause-draft : goal.returns-clause-draft
returns-clause-draft c = λ proof.
    subst (λ (text : List ℕ). IsDraftOf c.add_extensions.new.self text)
    (pieces_compose_without_proof c.args.channel.now c.args.nonce.now c.args.extensions.now proof)
    (c.add_extensions.ensures _ (c.add-3.ensures _ (c.add-2.ensures _ (c.add_base64.ensures _ (c.add.ensures _ c.new-draft.ensures)))))

pub returns-clause-utf8_text : goal.returns-clause-utf8_text
returns-clause-utf8_text c = λ proof.
    let channel : IsBytes c.args.channel.now = λ i. omega (arith, c.type_inv.channel i) in
    without_proof_is_text c.args.channel.now c.args.nonce.now c.args.extensions.now proof channel c.requires
