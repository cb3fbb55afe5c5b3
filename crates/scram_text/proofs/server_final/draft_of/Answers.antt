use Rattle.std.proofs.Common.{ℕ, List, subst}
use Rattle.scram_text.specs.Shown.{verifier_or_error_of}
use Rattle.scram_text.specs.Draft.{IsDraftOf}
use Rattle.scram_text.proofs.lemmas.messages_composed.ServerFinal.{pieces_compose_server_final, written_is_server_final}
use Rattle.scram_text.proofs.server_final.draft_of.Goals as goal

pub returns-clause-draft : goal.returns-clause-draft
returns-clause-draft c =
    subst (λ (text : List ℕ). IsDraftOf c.add_extensions.new.self text)
    (pieces_compose_server_final (verifier_or_error_of c.args.final_result.now) c.args.extensions.now)
    (c.add_extensions.ensures _ c.verifier_or_error_draft-draft.ensures.draft)

pub returns-clause-is_message : goal.returns-clause-is_message
returns-clause-is_message c = λ short.
    written_is_server_final (verifier_or_error_of c.args.final_result.now) c.args.extensions.now
    c.verifier_or_error_draft-draft.ensures.utf8_text
    c.requires
    short
