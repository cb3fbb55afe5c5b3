use Rattle.scram_text.proofs.lemmas.messages_decided.ClientFinal.{client_final_is_decided}
use Rattle.scram_text.proofs.laws.client_final_is_decided.Goals as goal

pub returns : goal.returns
returns c = client_final_is_decided
