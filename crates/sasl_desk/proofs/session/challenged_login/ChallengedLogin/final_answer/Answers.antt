use Rattle.std.proofs.Common.{ℕ, List, ◌++◌, sym, ◌∙◌, ap, subst}
use Rattle.scram_ends.specs.Stages.{challenged_login}
use Rattle.scram_ends.specs.Verdict.{due_text, final_due}
use Rattle.scram_ends.specs.declared.server.ServerWait.{ServerWait}
use Rattle.sasl_desk.specs.ChallengedLogin.{challenged_login_of, IsChallenging}
use Rattle.sasl_desk.proofs.lemmas.turns.DueAnswers.{verdict_is_due}
use Rattle.sasl_desk.proofs.lemmas.turns.Writable.{server_final_is_writable}
use Rattle.sasl_desk.proofs.session.challenged_login.ChallengedLogin.final_answer.Goals as goal

pub returns-in-Ok-finish-clause-due : goal.returns-in-Ok-finish-clause-due
returns-in-Ok-finish-clause-due g c = λ accounts server_nonce client_first server_first stands.
    let here = rw (← c.self.view_is) at stands in
    let (d, due, says, written, is) =
    rw (c.as_slice.ensures.value, c.in-Ok.ensures.ok) at (c.in-Ok-finish.ensures.ok _ here) in
    let message = written ∙ ap (λ (t : List ℕ). t ++ due_text d) c.requires in
    rw (c.verdict_answer.ensures, ← c.self.view_is)
    (verdict_is_due accounts server_nonce c.self.inside.mechanism c.self.inside.name client_first server_first c.args.client_final.now
    c.finish.new.out.items
    c.in-Ok-finish.verdict d due says message is)

pub returns-in-Ok-finish-clause-lines : goal.returns-in-Ok-finish-clause-lines
returns-in-Ok-finish-clause-lines g c =
    let (entry, client_first, server_first, stands) = c.self.invariant in
    let (d, due, says, written, is) = c.in-Ok-finish.ensures.ok
    (challenged_login entry c.self.inside.mechanism client_first server_first) stands in
    let message = written ∙ ap (λ (t : List ℕ). t ++ due_text d) c.requires in
    rw c.verdict_answer.ensures
    (server_final_is_writable c.in-Ok-finish.verdict c.self.inside.name c.finish.new.out.items (due_text d) (final_due d) message is)

pub invariant_of-result : goal.invariant_of-result
invariant_of-result g c =
    subst (λ (w : ServerWait). IsChallenging w c.self.inside.mechanism) (sym c.in-Err.ensures.back.0) c.self.invariant

pub returns-clause-err : goal.returns-clause-err
returns-clause-err g c = (
  ap (λ (w : ServerWait). challenged_login_of w c.self.inside.mechanism c.self.inside.name) c.in-Err.ensures.back.0 ∙
      c.self.view_is,
  c.in-Err.ensures.leaves.0 ∙ c.requires,
)
