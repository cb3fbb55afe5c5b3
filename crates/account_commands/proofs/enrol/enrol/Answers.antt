use Rattle.std.proofs.lemmas.Result.{err_from_is_err_and, on_ok_weaker}
use Rattle.account_commands.proofs.lemmas.EnrolFaults.{unsaved_account_ends_enrol}
use Rattle.account_commands.proofs.enrol.enrol.Goals as goal

pub returns-clause-ok : goal.returns-clause-ok
returns-clause-ok g c =
    on_ok_weaker c.print_done.result
    (λ printed. record {
      account = c.in_ok-account.account;
      is_name = c.in_ok-account.ensures.name.0;
      name_range = c.in_ok-account.ensures.name.1;
      is_first_line = c.in_ok-account.ensures.password.0;
      is_password = c.in_ok-account.ensures.password.1;
      is_count = c.in_ok-account.ensures.count.0;
      count_range = c.in_ok-account.ensures.count.1;
      file = c.in_ok-random.random;
      after = c.two_salts.new.random;
      is_added = record {
        book = c.in_ok-book.book;
        middle = g.R.File.Read.remaining c.read_or_new.new.random;
        is_there = c.in_ok-book.ensures.book;
        salts = c.in_ok-salts.salts;
        are_taken = c.in_ok-salts.ensures.salts;
        saved = c.in_ok-add_and_save.ensures.saved;
      };
      printed = rw c.text.ensures.value at printed;
    })
    c.print_done.ensures.printed

pub returns-in_err-add_and_save-clause-why : goal.returns-in_err-add_and_save-clause-why
returns-in_err-add_and_save-clause-why g c =
    let e = err_from_is_err_and c.from_residual-in_err-add_and_save.result c.from_residual-in_err-add_and_save.ensures.1 in
    rw (e.1, e.2) (unsaved_account_ends_enrol _ _ _ _ _ _ _ _ _ c.given-path.ensures c.in_ok-account.ensures.name.0
    c.in_ok-book.ensures.book c.in_err-add_and_save.ensures.err)

pub print_done-requires : goal.print_done-requires
print_done-requires g c = (c.in_ok-add_and_save.ensures.saved.last, c.in_ok-add_and_save.ensures.saved.is_saved)
