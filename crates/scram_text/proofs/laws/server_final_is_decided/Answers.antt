use Rattle.scram_text.proofs.lemmas.messages_decided.ServerFinal.{server_final_is_decided}
use Rattle.scram_text.proofs.laws.server_final_is_decided.Goals as goal

pub returns : goal.returns
returns c = server_final_is_decided
