use Rattle.otp_core.specs.Attempt.CodeTexts.{one_text, two_texts}
use Rattle.otp_core.proofs.lemmas.Steps.{due_reply_is_attempt}
use Rattle.otp_core.proofs.token.Token.judge.Goals as goal

pub returns-in-One : goal.returns-in-One
returns-in-One c =
    let sent = one_text c.in-One.text.now in
    rw (← c.self.view_is, c.in-One.is)
    (due_reply_is_attempt _ c.args.moment sent c.judge_one.result _ c.law_of_moments.ensures c.judge_one.ensures.due
    c.judge_one.ensures.state
    c.judge_one.ensures.range)

pub returns-in-Two : goal.returns-in-Two
returns-in-Two c =
    let sent = two_texts c.in-Two.first.now c.in-Two.second.now in
    rw (← c.self.view_is, c.in-Two.is)
    (due_reply_is_attempt _ c.args.moment sent c.judge_pair.result _ c.law_of_moments.ensures c.judge_pair.ensures.due
    c.judge_pair.ensures.state
    c.judge_pair.ensures.range)
