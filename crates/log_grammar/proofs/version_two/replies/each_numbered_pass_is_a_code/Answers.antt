use Rattle.log_grammar.proofs.lemmas.reply_laws.NumberedPassed.{each_numbered_pass_is_a_code}
use Rattle.log_grammar.proofs.version_two.replies.each_numbered_pass_is_a_code.Goals as goal

pub returns : goal.returns
returns c = each_numbered_pass_is_a_code
