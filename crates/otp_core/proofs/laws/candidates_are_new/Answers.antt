use Rattle.otp_core.proofs.lemmas.Used.{candidates_are_new}
use Rattle.otp_core.proofs.laws.candidates_are_new.Goals as goal

pub returns : goal.returns
returns c = candidates_are_new
