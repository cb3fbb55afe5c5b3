use Rattle.log_grammar.proofs.lemmas.reason_laws.CounterRanges.{due_replies_can_be_written}
use Rattle.log_grammar.proofs.version_one.reasons.due_replies_can_be_written.Goals as goal

pub returns : goal.returns
returns c = due_replies_can_be_written
