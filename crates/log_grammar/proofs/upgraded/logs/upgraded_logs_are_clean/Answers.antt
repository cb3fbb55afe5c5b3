use Rattle.log_grammar.proofs.lemmas.upgraded_logs.SameClean.{upgraded_logs_are_clean}
use Rattle.log_grammar.proofs.upgraded.logs.upgraded_logs_are_clean.Goals as goal

pub returns : goal.returns
returns c = upgraded_logs_are_clean
