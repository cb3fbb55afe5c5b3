use Rattle.scram_ends.specs.Verdict.{due_of}
use Rattle.scram_ends.proofs.lemmas.DueMessages.{accepted_iff_valid}
use Rattle.scram_ends.proofs.server.ServerWait.judge.Goals as goal

pub returns-clause-valid : goal.returns-clause-valid
returns-clause-valid c = λ l stands.
    accepted_iff_valid l c.args.client_final.now (due_of c.verdict_on.result) (c.verdict_on.ensures.due l stands)
