use Rattle.account_book.proofs.lemmas.Tokens.{tokens_stay}
use Rattle.account_book.proofs.laws.tokens_stay.Goals as goal

pub returns : goal.returns
returns c = tokens_stay
