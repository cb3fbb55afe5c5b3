use Rattle.log_grammar.proofs.lemmas.outcome_laws.ServerLines.{each_refusal_is_due}
use Rattle.log_grammar.proofs.version_one.outcomes.each_refusal_is_due.Goals as goal

pub returns : goal.returns
returns c = each_refusal_is_due
