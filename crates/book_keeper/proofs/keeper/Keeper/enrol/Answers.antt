use Rattle.std.proofs.Common.{refl}
use Rattle.account_book.specs.Accounts.{with_account}
use Rattle.account_book.specs.Enrolled.{enrolled}
use Rattle.book_keeper.proofs.lemmas.Changes.{free_name_has_no_account, removal_restores_book}
use Rattle.book_keeper.proofs.keeper.Keeper.enrol.Goals as goal

pub returns-in-Err-NoMemory-clause-err : goal.returns-in-Err-NoMemory-clause-err
returns-in-Err-NoMemory-clause-err g c =
    let old = c.args.self.now.book in
    let account = enrolled c.args.password.now c.args.sha1_salt.now c.args.sha256_salt.now c.args.count in (
      with_account old c.args.name.now account,
      record {
        free = free_name_has_no_account _ c.in-Err-NoMemory.field-0 c.in-Err-NoMemory.field-0-is c.in-Err-NoMemory.ensures.refused;
        added = refl;
      },
      refl,
    )

pub returns-in-Err-clause-undone : goal.returns-in-Err-clause-undone
returns-in-Err-clause-undone g c =
    removal_restores_book c.args.self.now.book c.enrol.new.self _ c.args.name.now
    (enrolled c.args.password.now c.args.sha1_salt.now c.args.sha256_salt.now c.args.count)
    c.in-Ok.ensures.added (rw c.in-Err.ensures.book at c.remove.ensures.removed)
