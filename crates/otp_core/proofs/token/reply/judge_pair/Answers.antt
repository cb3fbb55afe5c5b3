use Rattle.otp_core.specs.Attempt.CodeTexts.{two_texts}
use Rattle.otp_core.proofs.lemmas.LeastFound.{least_counter_can_move, reply_for_least_is_due}
use Rattle.otp_core.proofs.token.reply.judge_pair.Goals as goal

pub reply_by-requires-clause-counter : goal.reply_by-requires-clause-counter
reply_by-requires-clause-counter c =
    least_counter_can_move c.args.token.now c.args.moment (two_texts c.args.first.now c.args.second.now) c.find_pair-found.result
    (c.find_pair-found.ensures c.args.moment)

pub returns-clause-due : goal.returns-clause-due
returns-clause-due c =
    reply_for_least_is_due c.args.token.now c.args.moment (two_texts c.args.first.now c.args.second.now) c.find_pair-found.result
    c.reply_by.result c.reply_by.ensures.reply c.if-is_locked.ensures.open (c.find_pair-found.ensures c.args.moment)
