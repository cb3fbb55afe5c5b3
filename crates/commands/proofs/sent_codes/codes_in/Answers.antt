use Rattle.std.proofs.Common.{refl}
use Rattle.log_grammar.specs.Lines.{from_client, sync}
use Rattle.commands.proofs.sent_codes.codes_in.Goals as goal

-- a SYNC line is read as one
pub returns-in-Err : goal.returns-in-Err
returns-in-Err c = (refl, λ first second is. c.in-Err.ensures.every (from_client (sync first second)) is)
