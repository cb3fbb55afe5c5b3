use Rattle.log_grammar.proofs.lemmas.reply_laws.NumberedPassed.{numbered_counters_rise}
use Rattle.log_grammar.proofs.version_two.replies.numbered_counters_rise.Goals as goal

pub returns : goal.returns
returns c = numbered_counters_rise
