use Rattle.std.proofs.Common.{◌≡◌, ℕ, List, ◌++◌, length, sym, ◌∙◌, ap, subst, refl, arith}
use Rattle.std.specs.declared.result.Result.TheVariants.{Err}
use Rattle.std.proofs.lemmas.Result.{err_from_is_err_and}
use Rattle.scram_text.specs.Limits.{max_tag_len}
use Rattle.scram_text.specs.Base64Field.{IsField}
use Rattle.scram_text.specs.declared.fault.WriteFault.{WriteFault}
use Rattle.scram_ends.proofs.lemmas.client_messages.WriteFaults.{write_fault_is_memory}
use Rattle.scram_ends.proofs.client.ClientOne.append_answer.Goals as goal

pub returns-in_err-write_with_proof-clause-no_memory : goal.returns-in_err-write_with_proof-clause-no_memory
returns-in_err-write_with_proof-clause-no_memory g c =
    let e = err_from_is_err_and c.from_residual.result c.from_residual.ensures.1 in
    rw (e.1, e.2) (λ l p started is shows.
    let (client_final, answer) = c.composed-answer.ensures l p started is shows in
    let final = answer.honest.final in
    let is_final = answer.honest.is_final.is_final in
    let same : final.proof ≡ c.composed-answer.result.proof.items = sym answer.proof in
    let field : IsField max_tag_len c.composed-answer.result.proof.items = subst (IsField max_tag_len) same is_final.proof in
    let full = write_fault_is_memory c.write_with_proof.result _ c.in_err-write_with_proof.was
    (λ u. c.write_with_proof.ensures.unwritable u field)
    (λ o. let long = (c.write_with_proof.ensures.over_limit o).1 final answer.without_proof same in
    omega (arith, long, ap length is_final.spelled, is_final.short)) in
    let room = c.write_with_proof.ensures.no_memory
    (c.in_err-write_with_proof.was ∙ ap (λ (x : WriteFault). Err x) full) final answer.without_proof same in
    (full, (client_final, answer.honest, rw is_final.spelled room.1)))

pub returns-clause-ok : goal.returns-clause-ok
returns-clause-ok g c = λ l p started is shows.
    let (client_final, answer) = c.composed-answer.ensures l p started is shows in
    let same = sym answer.proof in (
      client_final,
      c.in_ok-write_with_proof.ensures.ok answer.honest.final answer.without_proof same
          ∙ ap (λ (t : List ℕ). c.args.out.now.items ++ t) (sym answer.honest.is_final.is_final.spelled),
      record {
        honest = answer.honest;
        signature = c.composed-answer.result.expected.items;
        signed = answer.expected;
        expected = refl;
      },
    )
