use Rattle.log_grammar.proofs.lemmas.lines.Payloads.{escapes_one_message}
use Rattle.log_grammar.proofs.lines.escapes_one_message.Goals as goal

pub returns : goal.returns
returns c = escapes_one_message
