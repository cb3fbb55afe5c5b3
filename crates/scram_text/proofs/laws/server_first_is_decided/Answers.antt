use Rattle.scram_text.proofs.lemmas.messages_decided.ServerFirst.{server_first_is_decided}
use Rattle.scram_text.proofs.laws.server_first_is_decided.Goals as goal

pub returns : goal.returns
returns c = server_first_is_decided
