use Rattle.log_grammar.proofs.lemmas.reply_laws.UsedCounters.{no_counter_is_used_twice}
use Rattle.log_grammar.proofs.version_one.replies.no_counter_is_used_twice.Goals as goal

pub returns : goal.returns
returns c = no_counter_is_used_twice
