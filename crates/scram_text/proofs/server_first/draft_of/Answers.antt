use Rattle.std.proofs.Common.{ℕ, List, subst, arith}
use Rattle.base64.specs.GeneralPurpose.{IsBytes}
use Rattle.scram_text.specs.Draft.{IsDraftOf}
use Rattle.scram_text.proofs.lemmas.messages_composed.ServerFirst.{pieces_compose_server_first, written_is_server_first}
use Rattle.scram_text.proofs.server_first.draft_of.Goals as goal

pub returns-clause-draft : goal.returns-clause-draft
returns-clause-draft c =
    let salted = c.add_base64.ensures _ (c.add-3.ensures _ (c.add-2.ensures _ (c.add.ensures _ c.new-draft.ensures))) in
    subst (λ (text : List ℕ). IsDraftOf c.add_extensions.new.self text)
    (pieces_compose_server_first c.args.nonce.now c.args.salt.now c.args.count c.args.extensions.now)
    (c.add_extensions.ensures _ (rw c.from.ensures at (c.add_decimal.ensures _ (c.add-4.ensures _ salted))))

pub returns-clause-is_message : goal.returns-clause-is_message
returns-clause-is_message c = λ short.
    let salt : IsBytes c.args.salt.now = λ i. omega (arith, c.type_inv.salt i) in
    written_is_server_first c.args.nonce.now c.args.salt.now c.args.count c.args.extensions.now salt c.requires short
