use Rattle.scram_text.proofs.lemmas.ClientFirst.{client_first_is_read}
use Rattle.scram_text.proofs.client_first.read_client_first.Goals as goal

pub returns-clause-every : goal.returns-clause-every
returns-clause-every c =
    client_first_is_read c.args.message.now c.read_parts.result c.read_parts.ensures.found c.read_parts.ensures.fault
