use Rattle.scram_text.proofs.lemmas.ClientFinal.{has_one_client_final}
use Rattle.scram_text.proofs.laws.has_one_client_final.Goals as goal

pub returns : goal.returns
returns c = has_one_client_final
