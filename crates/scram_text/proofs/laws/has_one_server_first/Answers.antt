use Rattle.scram_text.proofs.lemmas.ServerFirst.{has_one_server_first}
use Rattle.scram_text.proofs.laws.has_one_server_first.Goals as goal

pub returns : goal.returns
returns c = has_one_server_first
