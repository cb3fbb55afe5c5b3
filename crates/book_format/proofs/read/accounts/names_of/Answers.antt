use Rattle.std.proofs.Common.{inr, arith, sym}
use Rattle.toml.specs.View.{items_view}
use Rattle.book_format.proofs.lemmas.Lists.{item_count-view, untyped_names_are_refused, many_names_are_refused, few_names_are_read}
use Rattle.book_format.proofs.read.accounts.names_of.Goals as goal

pub returns-then-not-are_texts : goal.returns-then-not-are_texts
returns-then-not-are_texts c = inr (untyped_names_are_refused (items_view c.args.list.now) (sym c.if-not-are_texts.ensures))

pub returns-then-list-gt-MAX_NAMES : goal.returns-then-list-gt-MAX_NAMES
returns-then-list-gt-MAX_NAMES c =
    let count = item_count-view c.args.list.now in
    inr (many_names_are_refused (items_view c.args.list.now) (sym c.if-not-are_texts.ensures)
    (omega (arith, count, c.if-list-gt-MAX_NAMES.true)))

pub returns : goal.returns
returns c =
    let count = item_count-view c.args.list.now in
    rw (few_names_are_read (items_view c.args.list.now) (sym c.if-not-are_texts.ensures)
    (omega (arith, count, c.if-list-gt-MAX_NAMES.false))) c.names_in.ensures
