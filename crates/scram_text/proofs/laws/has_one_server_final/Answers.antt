use Rattle.scram_text.proofs.lemmas.ServerFinal.{has_one_server_final}
use Rattle.scram_text.proofs.laws.has_one_server_final.Goals as goal

pub returns : goal.returns
returns c = has_one_server_final
