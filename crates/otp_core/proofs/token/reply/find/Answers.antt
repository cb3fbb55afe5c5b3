use Rattle.otp_core.proofs.lemmas.LeastFound.{least_candidate_fits}
use Rattle.otp_core.proofs.token.reply.find.Goals as goal

pub returns-in-Hotp : goal.returns-in-Hotp
returns-in-Hotp c =
    least_candidate_fits c.args.token.now c.args.moment c.candidates-counters.result c.args.text.now c.find_by.result
    c.candidates-counters.ensures (rw (c.in-Hotp.is) c.find_by.ensures)

pub returns-in-Totp : goal.returns-in-Totp
returns-in-Totp c =
    least_candidate_fits c.args.token.now c.args.moment c.candidates-counters.result c.args.text.now c.find_by-in-Totp.result
    c.candidates-counters.ensures (rw (c.in-Totp.is) c.find_by-in-Totp.ensures)
