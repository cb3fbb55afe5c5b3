use Rattle.log_grammar.proofs.lemmas.reply_laws.Passed.{each_pass_is_a_code}
use Rattle.log_grammar.proofs.version_one.replies.each_pass_is_a_code.Goals as goal

pub returns : goal.returns
returns c = each_pass_is_a_code
