use Rattle.std.proofs.Common.{ap, ◌∙◌}
use Rattle.toml.specs.View.{view, members_view, table_view}
use Rattle.book_format.specs.Put.{put_member}
use Rattle.book_format.proofs.lemmas.Put.{members_view-insert_entry}
use Rattle.book_format.proofs.write.put.put.Goals as goal

pub returns : goal.returns
returns c =
    ap members_view c.in_ok-insert.ensures.entries
    ∙ members_view-insert_entry c.args.table.now.entries c.in_ok-key.key c.args.value
    ∙ ap (λ k. put_member k (view c.args.value) (table_view c.args.table.now)) c.in_ok-key.ensures.ok
