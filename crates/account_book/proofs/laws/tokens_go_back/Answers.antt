use Rattle.account_book.proofs.lemmas.Tokens.{tokens_go_back}
use Rattle.account_book.proofs.laws.tokens_go_back.Goals as goal

pub returns : goal.returns
returns c = tokens_go_back
