use Rattle.scram_text.proofs.lemmas.messages_composed.ServerFinal.{error_is_text}
use Rattle.scram_text.proofs.server_final.error_draft.Goals as goal

pub returns-clause-utf8_text : goal.returns-clause-utf8_text
returns-clause-utf8_text c = error_is_text c.args.value.now c.requires
