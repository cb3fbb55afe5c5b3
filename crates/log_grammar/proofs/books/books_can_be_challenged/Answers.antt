use Rattle.log_grammar.proofs.lemmas.demands.FitBooks.{books_can_be_challenged}
use Rattle.log_grammar.proofs.books.books_can_be_challenged.Goals as goal

pub returns : goal.returns
returns c = books_can_be_challenged
