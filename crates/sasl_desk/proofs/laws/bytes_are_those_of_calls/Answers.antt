use Rattle.sasl_desk.specs.Runs.{run_lines}
use Rattle.sasl_desk.proofs.lemmas.turns.TurnBytes.{log_bytes-append, wire_bytes-append}
use Rattle.sasl_desk.proofs.laws.bytes_are_those_of_calls.Goals as goal

pub returns-clause-log : goal.returns-clause-log
returns-clause-log c = λ call before. log_bytes-append (run_lines before) call.lines

pub returns-clause-wire : goal.returns-clause-wire
returns-clause-wire c = λ call before. wire_bytes-append (run_lines before) call.lines
