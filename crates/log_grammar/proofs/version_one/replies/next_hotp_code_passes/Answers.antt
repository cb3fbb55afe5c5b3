use Rattle.log_grammar.proofs.lemmas.reply_laws.Passed.{next_hotp_code_passes}
use Rattle.log_grammar.proofs.version_one.replies.next_hotp_code_passes.Goals as goal

pub returns : goal.returns
returns c = next_hotp_code_passes
