use Rattle.otp_core.proofs.lemmas.Joins.{histories_join}
use Rattle.otp_core.proofs.laws.histories_join.Goals as goal

pub returns : goal.returns
returns c = histories_join
