use Rattle.log_grammar.proofs.lemmas.reply_laws.Passed.{counters_rise}
use Rattle.log_grammar.proofs.version_one.replies.counters_rise.Goals as goal

pub returns : goal.returns
returns c = counters_rise
