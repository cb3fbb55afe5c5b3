use Rattle.scram_text.proofs.lemmas.ServerFirst.{server_first_is_read}
use Rattle.scram_text.proofs.server_first.read_server_first.Goals as goal

pub returns-clause-every : goal.returns-clause-every
returns-clause-every c =
    server_first_is_read c.args.message.now c.read_parts.result c.read_parts.ensures.found c.read_parts.ensures.fault
