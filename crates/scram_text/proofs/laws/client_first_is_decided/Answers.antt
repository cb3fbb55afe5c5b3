use Rattle.scram_text.proofs.lemmas.messages_decided.ClientFirst.{client_first_is_decided}
use Rattle.scram_text.proofs.laws.client_first_is_decided.Goals as goal

pub returns : goal.returns
returns c = client_first_is_decided
