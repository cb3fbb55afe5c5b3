use Rattle.otp_core.proofs.lemmas.SomeReply.{some_reply_is_due}
use Rattle.otp_core.proofs.laws.some_reply_is_due.Goals as goal

pub returns : goal.returns
returns c = some_reply_is_due
