use Rattle.scram_ends.proofs.lemmas.HonestLogins.{honest_logs_in}
use Rattle.scram_ends.proofs.honest.honest_login.Goals as goal

pub returns : goal.returns
returns c = honest_logs_in
