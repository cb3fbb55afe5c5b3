use Rattle.log_grammar.proofs.lemmas.reply_laws.Passed.{next_two_hotp_codes_pass}
use Rattle.log_grammar.proofs.version_one.replies.next_two_hotp_codes_pass.Goals as goal

pub returns : goal.returns
returns c = next_two_hotp_codes_pass
