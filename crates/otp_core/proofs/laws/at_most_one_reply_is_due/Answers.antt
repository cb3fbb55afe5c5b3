use Rattle.otp_core.proofs.lemmas.OneReply.{at_most_one_reply_is_due}
use Rattle.otp_core.proofs.laws.at_most_one_reply_is_due.Goals as goal

pub returns : goal.returns
returns c = at_most_one_reply_is_due
