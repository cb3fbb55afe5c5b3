use Rattle.log_grammar.specs.Lines.{from_client}
use Rattle.log_grammar.proofs.lemmas.lines.Written.{read_line_is_writable}
use Rattle.sasl_desk.proofs.session.line.client_line.Goals as goal

pub returns-in-Ok-FromClient-clause-written : goal.returns-in-Ok-FromClient-clause-written
returns-in-Ok-FromClient-clause-written c =
    let is = rw c.in-Ok-FromClient.field-0-is at c.in-Ok-FromClient.ensures.ok in
    read_line_is_writable c.args.text.now _ is

pub returns-in-Err-clause-none : goal.returns-in-Err-clause-none
returns-in-Err-clause-none c = λ line is. c.in-Err.ensures.every (from_client line) is
