use Rattle.std.proofs.Common.{[], sym, subst}
use Rattle.otp_core.specs.Attempt.CodeTexts.{two_texts}
use Rattle.otp_core.specs.Reply.{IsFitting}
use Rattle.otp_core.specs.inner.Passes.{IsLeast}
use Rattle.otp_core.specs.declared.token.kinds.TokenFields.{TokenFields}
use Rattle.otp_core.proofs.lemmas.LeastFound.{least_pair_fits}
use Rattle.otp_core.proofs.token.reply.find_pair.Goals as goal

pub returns-in-Hotp : goal.returns-in-Hotp
returns-in-Hotp c = λ moment.
    subst (λ (t : TokenFields). IsLeast (IsFitting t [] moment (two_texts c.args.first.now c.args.second.now)) c.find_pair_among.result)
    (sym c.in-Hotp.is)
    (least_pair_fits c.in-Hotp.token moment c.pair_candidates.result c.args.first.now c.args.second.now c.find_pair_among.result
    c.pair_candidates.ensures.pairs c.find_pair_among.ensures)
