use Rattle.std.proofs.Common.{ℕ, List, length, ap, ◌∙◌, subst, arith}
use Rattle.std.specs.Option.{option_copied}
use Rattle.scram_text.specs.Written.{client_first_of}
use Rattle.scram_text.specs.Draft.{IsDraftOf}
use Rattle.scram_text.proofs.lemmas.messages_composed.ClientFirst.{pieces_compose_client_first, pieces_compose_header, written_is_client_first}
use Rattle.scram_text.proofs.lemmas.messages_composed.ClientFirst.{header_is_no_longer}
use Rattle.scram_text.proofs.client_first.draft_of.Goals as goal

pub returns-clause-draft : goal.returns-clause-draft
returns-clause-draft c =
    let headed = c.add-2.ensures _ (c.add_authzid.ensures.draft _ (c.add.ensures _ c.flag_draft-draft.ensures)) in
    let named = c.add-4.ensures _ (c.add_name.ensures.draft _ (c.add-3.ensures _ headed)) in
    subst (λ (text : List ℕ). IsDraftOf c.add_extensions.new.self text)
    (pieces_compose_client_first c.args.flag.now (option_copied c.args.authzid) c.args.name.now c.args.nonce.now c.args.extensions.now)
    (c.add_extensions.ensures _ (rw c.bytes.ensures.value at (c.add-5.ensures _ named)))

pub returns-clause-header : goal.returns-clause-header
returns-clause-header c = λ short.
    let authzid = option_copied c.args.authzid in
    let is_header = pieces_compose_header c.args.flag.now authzid c.args.name.now c.args.nonce.now c.args.extensions.now in
    let headed = c.add-2.ensures _ (c.add_authzid.ensures.draft _ (c.add.ensures _ c.flag_draft-draft.ensures)) in
    let within = header_is_no_longer (client_first_of c.args.flag.now authzid c.args.name.now c.args.nonce.now c.args.extensions.now) in
    c.len-header_len.ensures _ headed (omega (arith, ap length is_header, within, short)) ∙ ap length is_header

pub returns-clause-is_message : goal.returns-clause-is_message
returns-clause-is_message c = λ short.
    written_is_client_first c.args.flag.now (option_copied c.args.authzid) c.args.name.now c.args.nonce.now c.args.extensions.now
    c.add_authzid.ensures.plain c.add_name.ensures.plain c.bytes.ensures.fits c.requires short
