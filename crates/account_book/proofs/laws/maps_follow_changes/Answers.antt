use Rattle.account_book.proofs.lemmas.Maps.{maps_follow_changes}
use Rattle.account_book.proofs.laws.maps_follow_changes.Goals as goal

pub returns : goal.returns
returns c = maps_follow_changes
