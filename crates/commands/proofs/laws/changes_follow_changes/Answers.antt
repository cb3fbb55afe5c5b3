use Rattle.commands.proofs.lemmas.Attempts.{changes_follow_changes}
use Rattle.commands.proofs.laws.changes_follow_changes.Goals as goal

pub returns : goal.returns
returns g c = changes_follow_changes g.S.BookStore.facts g.S.BookStore.IsStored
