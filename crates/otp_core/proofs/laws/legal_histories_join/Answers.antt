use Rattle.otp_core.proofs.lemmas.Joins.{legal_histories_join}
use Rattle.otp_core.proofs.laws.legal_histories_join.Goals as goal

pub returns : goal.returns
returns c = legal_histories_join
