use Rattle.log_grammar.proofs.lemmas.reply_laws.NumberedPassed.{no_numbered_counter_is_used_twice}
use Rattle.log_grammar.proofs.version_two.replies.no_numbered_counter_is_used_twice.Goals as goal

pub returns : goal.returns
returns c = no_numbered_counter_is_used_twice
