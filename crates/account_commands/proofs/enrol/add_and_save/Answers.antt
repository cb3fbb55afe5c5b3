use Rattle.std.proofs.Common.{inl, inr, refl, sym}
use Rattle.std.proofs.lemmas.Result.{err_from_is_err_and, IfErr-weaker}
use Rattle.command_io.proofs.lemmas.Results.{on_ok_from_both}
use Rattle.account_commands.proofs.lemmas.EnrolFaults.{failed_adding_has_reason, failed_saving_has_reason}
use Rattle.account_commands.proofs.enrol.add_and_save.Goals as goal

-- the book's file has changed, and the account is added to the book that it holds now
pub returns-in-Some-found-clause-saved : goal.returns-in-Some-found-clause-saved
returns-in-Some-found-clause-saved g c =
    let read = rw c.in-Some-found.is at c.in_ok-found.ensures.read in
    let saved = rw (sym c.in_ok-held-in-Some-found.ensures.saved) at read in
    on_ok_from_both c.enrol.result c.enrol.ensures.added c.enrol.ensures.saved
    (λ added done. record {
      first = c.in_ok-held-in-Some-found.held.book;
      is_first = inr (_, record { is_text = c.in_ok-held-in-Some-found.ensures.text; is_read = saved });
      last = c.enrol.new.held.book;
      is_enrolled = added;
      is_saved = (done.text, done.is_text, done.stored);
    })

-- the file has the text that the book had, or there is none, and the book is saved
pub returns-in-Ok-begin-clause-saved : goal.returns-in-Ok-begin-clause-saved
returns-in-Ok-begin-clause-saved g c =
    let done = c.in-Ok-begin.ensures.saved in
    record {
      first = c.args.book;
      is_first = inl refl;
      last = c.add_to.new.book;
      is_enrolled = c.in_ok-add_to.ensures.added;
      is_saved = (done.text, done.is_text, done.stored);
    }

pub returns-in-Some-found-clause-err : goal.returns-in-Some-found-clause-err
returns-in-Some-found-clause-err g c =
    let read = rw c.in-Some-found.is at c.in_ok-found.ensures.read in
    let saved = rw (sym c.in_ok-held-in-Some-found.ensures.saved) at read in
    IfErr-weaker c.enrol.result _ _
    (λ fault. failed_saving_has_reason _ _ _ _ _ _ _ (record { is_text = c.in_ok-held-in-Some-found.ensures.text; is_read = saved }))
    c.enrol.ensures.err

pub returns-in_err-add_to-clause-err : goal.returns-in_err-add_to-clause-err
returns-in_err-add_to-clause-err g c =
    let e = err_from_is_err_and c.from_residual.result c.from_residual.ensures.1 in
    rw (e.1, e.2) (failed_adding_has_reason _ _ _ _ _ c.in_err-add_to.ensures.err)
