use Rattle.log_grammar.proofs.lemmas.outcome_laws.ServerLines.{each_halt_ends_a_code}
use Rattle.log_grammar.proofs.version_one.outcomes.each_halt_ends_a_code.Goals as goal

pub returns : goal.returns
returns c = each_halt_ends_a_code
