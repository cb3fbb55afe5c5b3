use Rattle.log_grammar.proofs.lemmas.kinds.OneAnswer.{first_lines_of_clean_log_are_front}
use Rattle.log_grammar.proofs.judgements.first_lines_of_clean_logs_are_fronts.Goals as goal

pub returns : goal.returns
returns c = first_lines_of_clean_log_are_front
