use Rattle.std.proofs.Common.{◌≡◌, ◌≤◌, inl, [], ◌∷◌, length, sym, ◌∙◌, ap, subst, refl, arith}
use Rattle.std.proofs.lemmas.Option.{same_Some}
use Rattle.mac_core.specs.declared.mechanism.Mechanism.{Mechanism}
use Rattle.scram_ends.specs.Verdict.{Due, IsDue, due_of, due_text}
use Rattle.scram_ends.proofs.lemmas.Verdicts.{at_most_one_verdict_is_due}
use Rattle.c_library.specs.Demands.{AreMet}
use Rattle.c_library.specs.Logins.{final_demands, final_fits, login_of, texts_in}
use Rattle.c_library.specs.Prepared.{ArePreparedFor}
use Rattle.c_library.proofs.lemmas.Demands.{both_are_met}
use Rattle.c_library.proofs.lemmas.Verdicts.{zero_iff_valid}
use Rattle.c_library.proofs.prepared.scramotp_server_final_prepared.Goals as goal

pub returns-then-put-clause-answer : goal.returns-then-put-clause-answer
returns-then-put-clause-answer c = λ m is prepared.
    let e = c.args.entry.now in
    let client_first = c.args.client_first.now in
    let server_first = c.args.server_first.now in
    let client_final = c.args.client_final.now in
    let room = length c.args.out.now in
    let same : c.in-Some.mechanism ≡ m = same_Some c.in-Some.mechanism m (sym c.in-Some.is ∙ c.mechanism_of.ensures.every m is) in
    let login = login_of m e (texts_in c.args.act_as.now) client_first server_first in
    let judged = due_of c.in-Ok.judged in
    let are = subst (λ (k : Mechanism). ArePreparedFor k c.args.prepared.now e) (sym same) prepared in
    let due : IsDue login client_final judged = subst (λ (k : Mechanism). IsDue
    (login_of k e (texts_in c.args.act_as.now) client_first server_first) client_final judged) same (c.in-Ok.ensures.due are) in
    let text : c.as_slice.result.now ≡ due_text judged = c.as_slice.ensures.value ∙ c.report.ensures in
    let put = rw text at (c.if-put.ensures.put) in
    let fits : (d : Due) → IsDue login client_final d → length (due_text d) ≤ room = λ d is_due.
    let one = ap (λ (x : Due). length (due_text x)) (at_most_one_verdict_is_due login client_final d judged is_due due) in
    omega (arith, one, put.0) in
    inl (
      both_are_met (final_demands m e client_first server_first) (final_fits login client_final room ∷ [])
          (subst (λ (k : Mechanism). AreMet (final_demands k e client_first server_first)) same c.in-Ok.ensures.met) (fits, tt),
      record {
        server_final = due_text judged;
        is_verdict = record {
          due = judged;
          is_due = due;
          is_number = c.number_of.ensures;
          is_message = refl;
          valid = zero_iff_valid login client_final judged _ (due_text judged) due c.number_of.ensures refl;
        };
        is_put = put.1;
        is_len = put.2;
      },
    )
