use Rattle.otp_core.proofs.lemmas.Used.{used_stays_used}
use Rattle.otp_core.proofs.laws.used_stays_used.Goals as goal

pub returns : goal.returns
returns c = used_stays_used
