use Rattle.std.proofs.lemmas.Result.{on_ok_weaker}
use Rattle.account_commands.proofs.unlock.unlock.Goals as goal

pub returns-clause-ok : goal.returns-clause-ok
returns-clause-ok g c =
    let done = rw (c.in_ok-name.ensures.ok.0, c.given.ensures) at c.in_ok-unlock.ensures.done in
    on_ok_weaker c.print_done.result
    (λ printed. record {
      name_range = rw c.given.ensures at c.in_ok-name.ensures.ok.1;
      text = _;
      first = c.in_ok-held.held.book;
      is_first = c.in_ok-held.ensures.read;
      last = c.unlock.new.held.book;
      is_unlocked = done.unlocked;
      is_saved = (done.saved.text, done.saved.is_text, done.saved.stored);
      printed = rw (c.text.ensures.value, c.in_ok-name.ensures.ok.0, c.given.ensures) at printed;
    })
    c.print_done.ensures.printed

pub print_done-requires : goal.print_done-requires
print_done-requires g c =
    let saved = c.in_ok-unlock.ensures.done.saved in
    (c.unlock.new.held.book, (saved.text, saved.is_text, saved.stored))
