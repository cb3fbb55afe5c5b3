use Rattle.std.proofs.Common.{ap, ◌∙◌}
use Rattle.std.specs.Prelude.{option_map, codes, pos}
use Rattle.toml.specs.Data.{table, integer}
use Rattle.toml.proofs.Views.{view-Table}
use Rattle.book_format.specs.Put.{put_some}
use Rattle.book_format.proofs.lemmas.WritesItself.{last_step_goes_last}
use Rattle.book_format.proofs.write.token.totp_value.Goals as goal

pub returns-clause-tree : goal.returns-clause-tree
returns-clause-tree c =
    view-Table c.put_last.new.table ∙ ap table (c.in_ok-put_last.ensures
    ∙ ap (put_some (codes "last") (option_map (λ n. integer (pos n)) c.args.fields.now.last)) c.in_ok-table.ensures.tree
    ∙ last_step_goes_last c.args.fields.now)
