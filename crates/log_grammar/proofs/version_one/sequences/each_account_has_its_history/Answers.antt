use Rattle.log_grammar.proofs.lemmas.demands.EachAccount.{each_account_has_its_history}
use Rattle.log_grammar.proofs.version_one.sequences.each_account_has_its_history.Goals as goal

pub returns : goal.returns
returns c = each_account_has_its_history
