use Rattle.log_grammar.proofs.lemmas.kinds.OneAnswer.{clean_log_has_no_fault}
use Rattle.log_grammar.proofs.judgements.clean_logs_have_no_fault.Goals as goal

pub returns : goal.returns
returns c = clean_log_has_no_fault
