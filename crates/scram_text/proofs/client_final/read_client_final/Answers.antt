use Rattle.scram_text.proofs.lemmas.ClientFinal.{client_final_is_read}
use Rattle.scram_text.proofs.client_final.read_client_final.Goals as goal

pub returns-clause-every : goal.returns-clause-every
returns-clause-every c =
    client_final_is_read c.args.message.now c.read_parts.result c.read_parts.ensures.found c.read_parts.ensures.fault
