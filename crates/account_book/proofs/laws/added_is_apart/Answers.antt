use Rattle.account_book.proofs.lemmas.Maps.{added_is_apart}
use Rattle.account_book.proofs.laws.added_is_apart.Goals as goal

pub returns : goal.returns
returns c = added_is_apart
