use Rattle.account_book.proofs.lemmas.Maps.{maps_follow_additions}
use Rattle.account_book.proofs.laws.maps_follow_additions.Goals as goal

pub returns : goal.returns
returns c = maps_follow_additions
