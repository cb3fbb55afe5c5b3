use Rattle.sasl_desk.proofs.lemmas.halls.CallBytes.{hall_bytes-next_call, of_number-hall_lines, wire_bytes-next_call}
use Rattle.sasl_desk.proofs.laws.hall.bytes_are_those_of_calls.Goals as goal

pub returns-clause-log : goal.returns-clause-log
returns-clause-log c = hall_bytes-next_call

pub returns-clause-lines : goal.returns-clause-lines
returns-clause-lines c = of_number-hall_lines

pub returns-clause-wire : goal.returns-clause-wire
returns-clause-wire c = wire_bytes-next_call
