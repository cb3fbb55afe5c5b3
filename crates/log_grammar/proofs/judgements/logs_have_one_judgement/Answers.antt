use Rattle.log_grammar.proofs.lemmas.kinds.OneAnswer.{log_has_one_judgement}
use Rattle.log_grammar.proofs.judgements.logs_have_one_judgement.Goals as goal

pub returns : goal.returns
returns c = log_has_one_judgement
