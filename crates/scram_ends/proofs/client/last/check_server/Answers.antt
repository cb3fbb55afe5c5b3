use Rattle.std.proofs.lemmas.Result.{err_from_is_err_and}
use Rattle.scram_ends.proofs.client.last.check_server.Goals as goal

pub returns-in_err-parts-clause-err : goal.returns-in_err-parts-clause-err
returns-in_err-parts-clause-err c =
    let p = err_from_is_err_and c.from_residual.result c.from_residual.ensures.1 in
    rw (p.1, p.2) (c.in_err-parts.ensures.every, c.in_err-parts.ensures.fault)
