use Rattle.scram_text.proofs.lemmas.ClientFirst.{has_one_client_first}
use Rattle.scram_text.proofs.laws.has_one_client_first.Goals as goal

pub returns : goal.returns
returns c = has_one_client_first
