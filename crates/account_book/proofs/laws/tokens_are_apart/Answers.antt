use Rattle.account_book.proofs.lemmas.Tokens.{tokens_are_apart}
use Rattle.account_book.proofs.laws.tokens_are_apart.Goals as goal

pub returns : goal.returns
returns c = tokens_are_apart
