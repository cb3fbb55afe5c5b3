use Rattle.account_book.proofs.lemmas.Tokens.{entries_stay}
use Rattle.account_book.proofs.laws.entries_stay.Goals as goal

pub returns : goal.returns
returns c = entries_stay
