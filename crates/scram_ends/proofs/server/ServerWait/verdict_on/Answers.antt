use Rattle.std.proofs.Common.{inr}
use Rattle.scram_ends.proofs.server.ServerWait.verdict_on.Goals as goal

pub returns-in-Ok-clause-due : goal.returns-in-Ok-clause-due
returns-in-Ok-clause-due c = λ l stands.
    let found = c.in-Ok.ensures.found in
    inr (record {
      opening = stands.opening;
      final = found.0;
      is_opening = stands.is_opening;
      is_final = found.1;
      is_verdict = c.judge_final.ensures.verdict l stands found.0 found.2;
    })
