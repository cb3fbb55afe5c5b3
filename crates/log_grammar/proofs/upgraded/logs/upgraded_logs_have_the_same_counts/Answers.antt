use Rattle.log_grammar.proofs.lemmas.upgraded_logs.Texts.{upgraded_logs_have_the_same_counts}
use Rattle.log_grammar.proofs.upgraded.logs.upgraded_logs_have_the_same_counts.Goals as goal

pub returns : goal.returns
returns c = upgraded_logs_have_the_same_counts
